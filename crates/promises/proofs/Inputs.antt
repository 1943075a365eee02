-- Named inputs, most from "Examples with numbers", and what wrong programs give of them.
use mathlib.Core.List.{List, [], ◌∷◌, ◌++◌}
use Prim.Native.Nat.{ℕ, ◌/◌, ◌%◌}
use lib.ListN.{get_or, replicate}
use Rattle.terms.specs.declared.Settings.{Settings}
use Rattle.terms.specs.declared.Signal.{Signal}
use Rattle.terms.specs.declared.SignalResult.{SignalResult}
use Rattle.terms.specs.Results.{words_of}
use Rattle.terms.specs.Requests.{Request, request}
use Rattle.book.specs.Blocks.{book_of}

-- "cycle 2,500, slot 16, 93 slots, packing 0, payload 8"
abbrev pub settings : Settings
settings = record { cycle = 2500; slot = 16; slots = 93; packing = 0; payload = 8 }

abbrev pub asked : List ℕ → Request
asked list = request settings list

-- the signal of case 1, 2500/0/2500; that of case 3, 2500/15/2500; and 5000/0/5000, to which the rule gives 2
abbrev pub fresh : Signal
fresh = record { unit = 1; period = 2500; offset = 0; size = 16; bound = 2500 }

abbrev pub stale : Signal
stale = record { unit = 1; period = 2500; offset = 15; size = 16; bound = 2500 }

abbrev pub half : Signal
half = record { unit = 1; period = 5000; offset = 0; size = 16; bound = 5000 }

-- the list of signals, and the words of results
abbrev pub list_of : List Signal → List ℕ
list_of [] = []
list_of (x ∷ xs) = x.unit ∷ x.period ∷ x.offset ∷ x.size ∷ x.bound ∷ list_of xs

abbrev pub results_of : List SignalResult → List ℕ
results_of [] = []
results_of (r ∷ rs) = words_of r ++ results_of rs

abbrev pub result : (slot base repetition age : ℕ) → SignalResult
result slot base repetition age =
    record { frame = record { slot = slot; base = base; repetition = repetition }; age = age }

-- the lists of these signals, the first and the last also twice
abbrev pub case1 : List ℕ
case1 = list_of (fresh ∷ [])

abbrev pub case3 : List ℕ
case3 = list_of (stale ∷ [])

abbrev pub twice : List ℕ
twice = list_of (fresh ∷ fresh ∷ [])

abbrev pub single : List ℕ
single = list_of (half ∷ [])

abbrev pub pair : List ℕ
pair = list_of (half ∷ half ∷ [])

-- a lent table of 93 slots, all 0
abbrev pub blank : List ℕ
blank = replicate 5952 0

-- the words of results
abbrev pub words : List ℕ → ℕ → ℕ
words results p = get_or results p 0

-- ---- the plan of case 1: slot 1, base 0, repetition 1, age 16, in all 64 cycles

abbrev pub case1_results : List ℕ
case1_results = results_of (result 1 0 1 16 ∷ [])

abbrev pub case1_cells : List ℕ
case1_cells = replicate 64 1 ++ replicate 5888 0

-- ---- results of wrong programs

-- of case 1: repetition 64, with its true age there, over the bound of 2,500
abbrev pub sixty_four : List ℕ
sixty_four = results_of (result 1 0 64 157516 ∷ [])

-- .. and a plan of one slot, but the second
abbrev pub slot_two : List ℕ
slot_two = results_of (result 2 0 1 32 ∷ [])

-- of `single`: repetition 1
abbrev pub often : List ℕ
often = results_of (result 1 0 1 16 ∷ [])

-- of `twice`: the first placed truly, in slot 1, and the second shown at the same place
abbrev pub invented : List ℕ
invented = results_of (result 1 0 1 16 ∷ result 1 0 1 16 ∷ [])

-- little-endian words
abbrev pub bytes_of : List ℕ → List ℕ
bytes_of [] = []
bytes_of (w ∷ ws) = w % 256 ∷ w / 256 % 256 ∷ w / 65536 % 256 ∷ w / 16777216 ∷ bytes_of ws

-- of `pair` in bytes, where one slot is enough: slots 1 and 2, both with base 0 and repetition 2
abbrev pub spread : List ℕ
spread = bytes_of (results_of (result 1 0 2 16 ∷ result 2 0 2 32 ∷ []))

-- .. and slot 1 with base 0 and repetition 1, and with base 1 and repetition 2: both name cycle 1
abbrev pub colliding : List ℕ
colliding = bytes_of (results_of (result 1 0 1 16 ∷ result 1 1 2 2516 ∷ []))

-- ---- books

abbrev pub case1_book : List ℕ
case1_book = book_of settings case1

abbrev pub pair_book : List ℕ
pair_book = book_of settings pair

-- cycle and slot length exchanged
abbrev pub exchanged : Settings → Settings
exchanged s = record { cycle = s.slot; slot = s.cycle; slots = s.slots; packing = s.packing; payload = s.payload }
