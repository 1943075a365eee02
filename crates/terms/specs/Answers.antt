-- The number and the place of each answer, in the order of "Numbers the planner gives back".
use Rattle.std.specs.Prelude.{◌≡◌, List, ℕ, ◌+◌, ◌*◌, ◌≤◌, Result, Ok, Err}
use Rattle.laws.specs.Rows.{Row, FirstRow}
use Rattle.terms.specs.declared.Refusal.{Refusal}
use Rattle.terms.specs.declared.Refusal.TheVariants.{Length, Check, Kind, Count, Zero}
use Rattle.terms.specs.declared.Refusal.TheVariants.{Setting, Field, Bound, Slots, Room, Taken}

-- done, with its place, or a refusal
abbrev pub Answer : Type 0
Answer = Result ℕ Refusal

abbrev pub refusal_number : Refusal → ℕ
refusal_number Length = 1
refusal_number (Check p) = 2
refusal_number (Kind p) = 3
refusal_number Count = 4
refusal_number (Zero p) = 5
refusal_number (Setting p) = 6
refusal_number (Field p) = 7
refusal_number (Bound p) = 8
refusal_number (Slots p) = 9
refusal_number (Room p) = 10
refusal_number (Taken p) = 11

abbrev pub refusal_place : Refusal → ℕ
refusal_place Length = 0
refusal_place (Check p) = p
refusal_place (Kind p) = p
refusal_place Count = 0
refusal_place (Zero p) = p
refusal_place (Setting p) = p
refusal_place (Field p) = p
refusal_place (Bound p) = p
refusal_place (Slots p) = p
refusal_place (Room p) = p
refusal_place (Taken p) = p

-- 0 where all is done
abbrev pub number_of : Answer → ℕ
number_of (Ok p) = 0
number_of (Err r) = refusal_number r

abbrev pub place_of : Answer → ℕ
place_of (Ok p) = p
place_of (Err r) = refusal_place r

-- what a C caller gets: the number times 4,294,967,296, plus the place
abbrev pub packed_of : Answer → ℕ
packed_of a = number_of a * 4294967296 + place_of a

-- a is the answer of the first row that does not hold; where all hold it is done, with a place of which `done` is true
abbrev pub Answers : List Row → (done : ℕ → Type 0) → Answer → Type 0
Answers rows done a = FirstRow rows done (number_of a) (place_of a)

-- 10: "lent room too short", with the "cells, words or bytes needed"
abbrev pub room_row : (needs lent : ℕ) → Row
room_row needs lent = record { number = 10; holds = needs ≤ lent; place = λ p. p ≡ needs }
