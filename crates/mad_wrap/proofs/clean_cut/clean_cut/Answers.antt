use Rattle.std.proofs.Common.{◌≤◌, ◌<◌, Option, Some, None, IfSome, List, [], ◌∷◌, length, get_or, arith}
use Rattle.std.specs.Str.{IsUtf8}
use Rattle.mad_md.specs.declared.compound.Compound.{Compound}
use Rattle.mad_wrap.specs.CleanCut.{AreTexts}
use Rattle.mad_wrap.proofs.clean_cut.clean_cut.Goals as goal

if_some : {T P Q : Type 0} (r : Option T) → (P → Q) → IfSome r (λ _. P) → IfSome r (λ _. Q)
if_some None f h = tt
if_some (Some x) f h = f h

two_texts : (ps : List Compound) (d e : Compound) → 2 ≤ length ps → length ps < 3 → IsUtf8 (get_or ps 0 d).src.now × IsUtf8 (get_or ps 1 e).src.now → AreTexts ps
two_texts (p ∷ q ∷ []) d e low high h = (h.0, (h.1, tt))
two_texts _ d e low high h = absurd (omega arith)

pub returns-in-len2-clause-texts : goal.returns-in-len2-clause-texts
returns-in-len2-clause-texts c = if_some c.if_both_fit.result (two_texts _ _ _ c.in-len2.len_at_least c.in-len2.len_below) c.if_both_fit.ensures.texts
