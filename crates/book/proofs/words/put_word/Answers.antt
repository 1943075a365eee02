-- `book::words::put_word` meets its contract: the four bytes put are the word's, the lowest first.
-- Assumes nothing.
use Rattle.std.proofs.Common.{◌≡◌, ℕ, suc, ◌+◌, ◌*◌, ◌≤◌, List, [], ◌∷◌, length, set, sym, ◌∙◌, refl, add-zero}
use Rattle.std.proofs.Common.{div-one, arith}
use Rattle.std.proofs.lemmas.Slice.{put_mid-paste}
use Rattle.std.proofs.lemmas.List.Edits.{sets-eq}
use borrow.Rule.Slice.PartMut.{put_mid}
use Rattle.laws.specs.Stored.{stored_from}
use Rattle.book.specs.Words.{up_to, byte_of}
use Rattle.book.proofs.words.put_word.Goals as goal

-- four bytes put at once are four stores
four : (b : List ℕ) (n k x y z w : ℕ) → k ≡ 4 → n + 4 ≤ length b
    → put_mid n k b (x ∷ y ∷ z ∷ w ∷ []) ≡ set (set (set (set b (n + 0) x) (n + 1) y) (n + 2) z) (n + 3) w
four b n k x y z w e fits =
    let bytes = x ∷ y ∷ z ∷ w ∷ [] in
    let one : n + 1 ≡ suc n = omega arith in
    let two : n + 2 ≡ suc (suc n) = omega arith in
    let three : n + 3 ≡ suc (suc (suc n)) = omega arith in
    rw (add-zero, one, two, three) (put_mid-paste n k b bytes bytes 4 refl (sym e) refl ∙ sym (sets-eq bytes b n fits))

pub returns : goal.returns
unfolding stored_from up_to byte_of
returns c =
    simp div-one
    (rw (c.copy_from_slice.ensures.after, c.to_le_bytes.ensures)
    (four c.args.bytes.now (4 * c.args.p) _ _ _ _ _ (omega arith) c.requires))
