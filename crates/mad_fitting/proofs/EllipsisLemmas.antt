-- Ellipses among the parts of a text.
use Rattle.std.proofs.Common.{◌≡◌, ℕ, ◌+◌, List, [], ◌∷◌, ◌++◌, inl, inr, length, refl, sym, ap, ◌∙◌, arith}
use Rattle.std.specs.Str.{chars}
use Rattle.std.proofs.lemmas.List.{append_assoc}
use Rattle.std.proofs.lemmas.List.Concat.{flat_map-append}
use Rattle.unicode_width.proofs.Computing.{unicode_width}
use Rattle.mad_characters.specs.Columns.{char_columns}
use Rattle.mad_md.specs.Flagged.{FlaggedChar, Run, flagged, flagged_of, flagged_text, unflagged}
use Rattle.mad_md.specs.declared.compound.Compound.{Compound}
use Rattle.mad_measure.specs.TextColumns.{width_of}
use Rattle.mad_measure.proofs.FlaggedLemmas.{width_of-append}
use Rattle.mad_fitting.specs.Ellipses.{IsEllipsis, IsShortened}

-- an ellipsis says its one character, without flags
pub ellipsis_says : (p : Compound) → IsEllipsis p → flagged_of p ≡ record { char = 8230; flags = unflagged } ∷ []
unfolding chars
ellipsis_says p is = ap (λ (r : Run). flagged r.flags (chars r.text)) is

ellipsis_columns : char_columns 8230 ≡ 1
unfolding char_columns unicode_width
ellipsis_columns = refl

-- an ellipsis takes one column
pub ellipsis_width : (p : Compound) → IsEllipsis p → width_of (flagged_of p) ≡ 1
ellipsis_width p is = omega (arith, ap width_of (ellipsis_says p is), ellipsis_columns)

-- an ellipsis has three bytes
pub ellipsis_bytes : (p : Compound) → IsEllipsis p → length p.src.now ≡ 3
ellipsis_bytes p is = ap (λ (r : Run). length r.text) is

-- the columns of compounds in two lists, and with one more
pub text-append : (ps qs : List Compound) → flagged_text (ps ++ qs) ≡ flagged_text ps ++ flagged_text qs
text-append ps qs = flat_map-append flagged_of ps qs

-- the compounds of two lists take as many columns as both lists together
pub width-append : (ps qs : List Compound) → width_of (flagged_text (ps ++ qs)) ≡ width_of (flagged_text ps) + width_of (flagged_text qs)
width-append ps qs = ap width_of (text-append ps qs) ∙ width_of-append (flagged_text ps) (flagged_text qs)

-- a compound in front of others adds its own columns
pub width-cons : (p : Compound) (ps : List Compound) → width_of (flagged_text (p ∷ ps)) ≡ width_of (flagged_of p) + width_of (flagged_text ps)
width-cons p ps = width_of-append (flagged_of p) (flagged_text ps)

-- compounds are the parts of their own text
pub own_parts : (ps : List Compound) → IsShortened 0 (flagged_text ps) ps
own_parts [] = refl
own_parts (p ∷ ps) = inr ([], flagged_text ps, refl, own_parts ps)

-- what is put in front of the text is one more gap
pub after_gap : (gap : List FlaggedChar) (n : ℕ) (text : List FlaggedChar) (ps : List Compound) → IsShortened n text ps → IsShortened n (gap ++ text) ps
after_gap gap n text [] h = h
after_gap gap n text (p ∷ ps) (inl (k, more, own, rest)) = inl (k, more, own, after_gap gap k text ps rest)
after_gap gap n text (p ∷ ps) (inr (g, others, cut, rest)) = inr (gap ++ g, others, ap (λ l. gap ++ l) cut ∙ sym (append_assoc gap g (flagged_of p ++ others)), rest)

-- an ellipsis more, at the end and in front
pub pushed : (n : ℕ) (text : List FlaggedChar) (ps : List Compound) (e : Compound) → IsShortened n text ps → IsEllipsis e → IsShortened (n + 1) text (ps ++ e ∷ [])
pushed n text [] e h is = inl (n, refl, is, h)
pushed n text (p ∷ ps) e (inl (k, more, own, rest)) is = inl (k + 1, omega (arith, more), own, pushed k text ps e rest is)
pushed n text (p ∷ ps) e (inr (gap, others, cut, rest)) is = inr (gap, others, cut, pushed n others ps e rest is)

-- an ellipsis that is put in front is one more
pub put_in_front : (n : ℕ) (text : List FlaggedChar) (ps : List Compound) (e : Compound) → IsShortened n text ps → IsEllipsis e → IsShortened (n + 1) text (e ∷ ps)
put_in_front n text ps e h is = inl (n, refl, is, h)
