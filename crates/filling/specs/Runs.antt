-- How a frame is placed: "A frame goes to the current slot while that has a free cycle, with the first free cycle as its
-- base; else the next slot is begun."
use Rattle.std.specs.Prelude.{cond, ℕ, ◌+◌, ltb}
use Rattle.terms.specs.declared.Frame.{Frame}
use Rattle.filling.specs.declared.UnitFrame.{UnitFrame}
use Rattle.filling.specs.Cycles.{Cycles, takes, first_free}

-- a placed frame: its signal, and the frame with slot, repetition and base
pub record Placed : Type 0 where
  pub signal : ℕ
  pub frame : Frame

-- the slots begun, the last of which is the current one, and the current one's cycles
pub record State : Type 0 where
  pub begun : ℕ
  pub cycles : Cycles

-- after k slots: nothing is free, so that the first frame begins a new slot
abbrev pub start : ℕ → State
start k = record { begun = k; cycles = λ c. 1 }

-- the next slot, with all cycles free
abbrev pub next : State → State
next s = record { begun = s.begun + 1; cycles = λ c. 0 }

-- the slot that a frame goes to: the current one while it has a free cycle, else the next
unfoldable pub goes_to : State → State
goes_to s = cond (ltb (first_free s.cycles) 64) s (next s)

-- where a frame is placed, and the state after it
abbrev pub placed : State → UnitFrame → Placed
placed s f =
    record {
      signal = f.signal;
      frame = record { slot = (goes_to s).begun; repetition = f.repetition; base = first_free (goes_to s).cycles };
    }

abbrev pub after : State → UnitFrame → State
after s f =
    record {
      begun = (goes_to s).begun;
      cycles = λ c. (goes_to s).cycles c + takes f.repetition (first_free (goes_to s).cycles) c;
    }
