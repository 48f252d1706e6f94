use Rattle.std.proofs.Common.{◌≡◌, ap, ◌∙◌, sym, Some, None, Bool, true, false, cond, List, ℕ, refl}
use Rattle.std.specs.Str.{IsUtf8, is_utf8}
use Rattle.std.proofs.lemmas.Str.{is_utf8-from_IsUtf8, IsUtf8-from_is_utf8}
use Rattle.markdown_brackets.specs.Labels.{text_of}
use Rattle.markdown_brackets.proofs.labels.text_of.Goals as goal

is_text : (bytes text : List ℕ) → text ≡ bytes → IsUtf8 bytes → Some text ≡ text_of bytes
is_text bytes text e u = ap Some e ∙ sym (ap (λ (t : Bool). cond t (Some bytes) None) (is_utf8-from_IsUtf8 bytes u))

no_text_by : (bytes : List ℕ) (t : Bool) → is_utf8 bytes ≡ t → (IsUtf8 bytes → ⊥) → None ≡ cond t (Some bytes) None
no_text_by bytes true e never = absurd (never (IsUtf8-from_is_utf8 bytes e))
no_text_by bytes false e never = refl

pub returns-in-Ok : goal.returns-in-Ok
returns-in-Ok c = is_text c.args.bytes.now c.in-Ok.text.now c.in-Ok.ensures.cases.0 c.in-Ok.ensures.cases.1

pub returns-in-Err : goal.returns-in-Err
returns-in-Err c = no_text_by c.args.bytes.now (is_utf8 c.args.bytes.now) refl c.in-Err.ensures.cases.0
