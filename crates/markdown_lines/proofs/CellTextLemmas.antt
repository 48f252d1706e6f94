-- The text of a cell that has no backslash.
use Rattle.std.proofs.Common.{◌≡◌, ℕ, suc, ◌<◌, ◌≤◌, ⊎_elim, Option, Some, None, is_some, false, cond, eqb, List, [], ◌∷◌, ◌++◌, get_or, length, refl, sym, ap, ◌∙◌, arith, append_assoc, append-nil}
use Rattle.std.specs.Str.{IsUtf8}
use Rattle.std.specs.Str.Lossy.{utf8_lossy}
use Rattle.std.proofs.lemmas.Bool.{cases_lt}
use Rattle.std.proofs.lemmas.List.{get_or_past}
use Rattle.std.proofs.lemmas.Str.{utf8_lossy-IsUtf8}
use Rattle.memchr.specs.Find.{is_byte, IsFirstByte}
use Rattle.markdown_cells.specs.Cells.{unbarred}
use Rattle.markdown_lines.proofs.CutLemmas.{not_true, apart}

-- no byte is a backslash
abbrev pub HasNoEscape : List ℕ → Type 0
HasNoEscape text = (k : ℕ) → eqb (get_or text k 0) 92 ≡ false

-- a search that finds none
pub no_escape : (bs : List ℕ) (found : Option ℕ) → IsFirstByte (is_byte 92) bs found → is_some found ≡ false → HasNoEscape bs
no_escape bs None none e k = ⊎_elim (λ (few : k < length bs). not_true _ (none k (omega arith) few)) (λ (over : length bs ≤ k). ap (λ b. eqb b 92) (get_or_past bs k 0 over)) (cases_lt k (length bs))
no_escape bs (Some at) h e k = absurd (apart e)

unbarred_plain : (text bs : List ℕ) → HasNoEscape bs → unbarred text false bs ≡ text ++ bs
unfolding unbarred
unbarred_plain text [] h = sym (append-nil text)
unbarred_plain text (b ∷ bs) h =
    ap (λ t. unbarred (cond t text (text ++ b ∷ [])) t bs) (h 0) ∙ unbarred_plain (text ++ b ∷ []) bs (λ k. h (suc k)) ∙ append_assoc text (b ∷ []) bs

-- it stands as it is
pub plain_text : (text cell : List ℕ) → HasNoEscape cell → IsUtf8 cell → text ≡ cell → text ≡ utf8_lossy (unbarred [] false cell)
plain_text text cell none utf8 is = is ∙ sym (utf8_lossy-IsUtf8 cell utf8) ∙ ap utf8_lossy (sym (unbarred_plain [] cell none))
