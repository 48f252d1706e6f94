-- Commands that were made once.
use Rattle.std.proofs.Common.{◌≡◌, ℕ, zero, suc, ◌<◌, ◌≤◌, List, [], ◌∷◌, ◌++◌, length, get_or, refl, sym, ap, ◌∙◌, arith, ⊎_elim, length-append}
use Rattle.std.specs.Prelude.{string_bytes}
use Rattle.std.specs.declared.alloc.Global.{Global}
use Rattle.std.specs.declared.string.String.{String}
use Rattle.std.proofs.lemmas.Bool.{cases_lt}
use Rattle.mad_term.specs.Styles.{opening_bytes}
use Rattle.mad_term.specs.declared.styles.ContentStyle.{ContentStyle}
use Rattle.mad_style.specs.declared.compound_styles.CompoundStyle.{CompoundStyle}
use Rattle.mad_marked_rows.specs.Openings.{AreOpenings}
use Rattle.mad_marked_rows.specs.Paints.{paint_by}

text_in_front : (ts : List (String Global)) (t : String Global) (v : ℕ) (d : String Global) → v < length ts → get_or (ts ++ t ∷ []) v d ≡ get_or ts v d
text_in_front [] t v d h = absurd (omega arith)
text_in_front (x ∷ xs) t zero d h = refl
text_in_front (x ∷ xs) t (suc v) d h = text_in_front xs t v d (omega arith)

last_one : (ts : List (String Global)) (t d : String Global) → get_or (ts ++ t ∷ []) (length ts) d ≡ t
last_one [] t d = refl
last_one (x ∷ xs) t d = last_one xs t d

-- no command is one of no style
pub openings_none : (styles : List CompoundStyle) (base : ContentStyle) (ts : List (String Global)) → ts ≡ [] → AreOpenings styles base ts
openings_none styles base ts none = λ v d h. absurd (omega (arith, ap length none, h))

-- one more
pub openings_more : (styles : List CompoundStyle) (base : ContentStyle) (ts : List (String Global)) (t : String Global) (n : ℕ) → length ts ≡ n → AreOpenings styles base ts → string_bytes t ≡ opening_bytes (paint_by styles n base) → AreOpenings styles base (ts ++ t ∷ [])
openings_more styles base ts t n many h is = λ v d within. ⊎_elim
    (λ (lt : v < length ts). ap string_bytes (text_in_front ts t v d lt) ∙ h v d lt)
    (λ (le : length ts ≤ v).
    let same : v ≡ length ts = omega (arith, within, length-append ts (t ∷ [])) in
    ap (λ (k : ℕ). string_bytes (get_or (ts ++ t ∷ []) k d)) same ∙ ap string_bytes (last_one ts t d) ∙ is ∙ ap (λ (k : ℕ). opening_bytes (paint_by styles k base)) (sym many ∙ sym same))
    (cases_lt v (length ts))
