-- The part of a book that holds a signal's twenty bytes: which books have it, and where it starts.
use Rattle.std.specs.Prelude.{ℕ, ◌+◌, ◌-◌, ◌*◌, ◌/◌, ◌%◌, List}
use Rattle.laws.specs.Rows.{Hold}
use Rattle.laws.specs.Lowest.{Between}
use Rattle.terms.specs.Lists.{signal_size}
use Rattle.book.specs.Blocks.{per_block}
use Rattle.book.specs.Reading.{signals_of, book_rows}

-- a sound book has signals 1 to m
abbrev pub HasSignal : List ℕ → ℕ → Type 0
HasSignal b i = Hold (book_rows b) × Between 1 (signals_of b) i

-- "twenty bytes"
abbrev pub part_size : ℕ
part_size = 4 * signal_size

-- "512 times (1 + (i − 1)/24, rounded down) plus 12 plus 20 times the remainder of (i − 1) by 24"
abbrev pub part_start : ℕ → ℕ
part_start i = 512 * (1 + (i - 1) / per_block) + 12 + part_size * ((i - 1) % per_block)
