-- "Filling the table": where among the tables of fewest slots a plan lies, sentence by sentence, of the frames that it shows.
use Rattle.terms.specs.Lists.{count, group_of}
use Rattle.filling.specs.Drawn.{FillingShown}
use Rattle.promises.specs.Calls.{Routine, WhereDone}
use Rattle.promises.specs.Shows.{frame_of, Planning}

-- so it is of any way to plan
abbrev pub ShowsFilling : {Asked Room : Type 0} → Planning Asked Room → Routine Asked Room → Type 0
ShowsFilling p Gives =
    WhereDone Gives (λ x l y. FillingShown (count (p.list x)) (group_of (p.list x)) (frame_of (p.word y.lent)))
