-- A signal list as words, so many a signal: its count, its signals, and how many it may hold.
use Rattle.std.specs.Prelude.{◌≡◌, List, ℕ, ◌+◌, ◌*◌, ◌-◌, ◌/◌, ◌%◌, ◌≤◌, length, get_or}
use Rattle.laws.specs.Lowest.{EachTo}
use Rattle.laws.specs.Rows.{Row}
use Rattle.terms.specs.declared.Signal.{Signal}

-- "A signal is five words"
abbrev pub signal_size : ℕ
signal_size = 5

-- where entry i of so many words starts, numbered from 1; there is no entry 0, and what asks for it gets the first
abbrev pub entry_start : (size i : ℕ) → ℕ
entry_start size i = size * (i - 1)

abbrev pub count : List ℕ → ℕ
count list = length list / signal_size

-- "A list holds 0 to 600 signals"
pub record CountInRange (list : List ℕ) : Type 0 where
  pub whole : length list % signal_size ≡ 0
  pub few : count list ≤ 600

-- 4: "over 600 signals; a signal list not a multiple of five words"
abbrev pub count_row : List ℕ → Row
count_row list = record { number = 4; holds = CountInRange list; place = λ p. p ≡ 0 }

-- signal i, from a row of words: "unit, period, offset, size, freshness bound"
abbrev pub signal_from : (word : ℕ → ℕ) → Signal
signal_from word = record { unit = word 0; period = word 1; offset = word 2; size = word 3; bound = word 4 }

abbrev pub signal_at : List ℕ → ℕ → Signal
signal_at list i = signal_from (λ d. get_or list (entry_start signal_size i + d) 0)

-- every signal of the list has the property
abbrev pub EachSignal : List ℕ → (Signal → Type 0) → Type 0
EachSignal list P = EachTo (count list) (λ i. P (signal_at list i))

-- the group of a signal, whose frames share slots: its unit; and how many groups there may be
abbrev pub group_of : List ℕ → ℕ → ℕ
group_of list i = (signal_at list i).unit

abbrev pub groups : ℕ
groups = 256
