-- The ranges of "Settings and signals" and of a frame, as facts in 01's order, and which setting word number 6 names.
use Rattle.std.specs.Prelude.{◌≡◌, cond, List, [], ◌∷◌, ℕ, ◌*◌, ◌^◌, ◌≤◌, ◌<◌, eqb}
use Rattle.laws.specs.Rows.{Row, FirstRow, Hold}
use Rattle.laws.specs.Lowest.{Between}
use Rattle.terms.specs.declared.Settings.{Settings}
use Rattle.terms.specs.declared.Signal.{Signal}
use Rattle.terms.specs.declared.Frame.{Frame}

-- 01's table: a word of the settings block, the setting that it holds, and what is asked of it
pub record SettingEntry : Type 1 where
  pub word : ℕ
  pub value : ℕ
  pub range : Type 0

abbrev pub setting_table : Settings → List SettingEntry
setting_table s =
    record { word = 2; value = s.cycle; range = Between 10 16000 s.cycle }
    ∷ record { word = 3; value = s.slot; range = Between 1 16000 s.slot }
    ∷ record { word = 4; value = s.slots; range = Between 2 128 s.slots × (s.slots * s.slot ≤ s.cycle) }
    ∷ record { word = 5; value = s.packing; range = s.packing ≤ 16000 }
    ∷ record { word = 6; value = s.payload; range = Between 1 127 s.payload }
    ∷ []

-- each with "its word, lowest first; slots too long for the cycle is word 4"
abbrev pub table_rows : List SettingEntry → List Row
table_rows [] = []
table_rows (t ∷ ts) = record { number = 6; holds = t.range; place = λ p. p ≡ t.word } ∷ table_rows ts

abbrev pub setting_rows : Settings → List Row
setting_rows s = table_rows (setting_table s)

abbrev pub SettingsInRange : Settings → Type 0
SettingsInRange s = Hold (setting_rows s)

-- w is the word of the first setting that is out of range, or 0 where none is
abbrev pub LowestOutOfRange : Settings → ℕ → Type 0
LowestOutOfRange s w = (n : ℕ) × FirstRow (setting_rows s) (λ p. p ≡ 0) n w

-- 6: "a setting out of range"
abbrev pub setting_row : Settings → Row
setting_row s = record { number = 6; holds = SettingsInRange s; place = LowestOutOfRange s }

-- the setting that word w holds, or 0 where it holds none; and the settings of given words
abbrev pub word_in : List SettingEntry → ℕ → ℕ
word_in [] w = 0
word_in (t ∷ ts) w = cond (eqb w t.word) t.value (word_in ts w)

abbrev pub setting_word : Settings → ℕ → ℕ
setting_word s w = word_in (setting_table s) w

abbrev pub settings_from : (word : ℕ → ℕ) → Settings
settings_from word = record { cycle = word 2; slot = word 3; slots = word 4; packing = word 5; payload = word 6 }

-- a signal under settings s
pub record SignalInRange (s : Settings) (x : Signal) : Type 0 where
  pub unit : Between 1 255 x.unit
  pub period : Between 1 100000000 x.period
  pub offset : x.offset < x.period
  pub size : Between 1 (16 * s.payload) x.size
  pub bound : Between 1 x.period x.bound

-- the settings, and a signal under them
pub record Valid (s : Settings) (x : Signal) : Type 0 where
  pub settings : SettingsInRange s
  pub signal : SignalInRange s x

-- R is one of 1, 2, 4, 8, 16, 32, 64
abbrev pub Repetition : ℕ → Type 0
Repetition R = (e : ℕ) × (e ≤ 6) × (R ≡ 2 ^ e)

-- a frame in n slots: a slot from 1 to n, a repetition, and a base below it
pub record FrameInRange (slots : ℕ) (f : Frame) : Type 0 where
  pub slot : Between 1 slots f.slot
  pub repetition : Repetition f.repetition
  pub base : f.base < f.repetition
