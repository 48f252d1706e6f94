-- Tokens that are told character by character.
use Rattle.std.proofs.Common.{◌≡◌, ◌++◌, ◌≤◌, ◌+◌, ◌⊎◌, ℕ, Bool, List, length, drop, sym, ◌∙◌, arith, subst}
use Rattle.std.specs.Char.{encode_utf8, len_utf8}
use Rattle.std.proofs.lemmas.Str.{drop_past_char, length-encode}
use Rattle.mad_characters.specs.Columns.{char_columns}
use Rattle.mad_md.specs.Flagged.{Flags, is_blank}
use Rattle.mad_measure.proofs.TokenLemmas.{IsFront, front_more}

-- what is behind a front
pub record HasFront (max : ℕ) (f : Flags) (bs rest : List ℕ) (end : ℕ) (blank : Bool) (width : ℕ) : Type 0 where
  pub front : IsFront max f bs end blank width
  pub position : drop end bs ≡ rest

-- a front with one character more
pub one_more : (max : ℕ) (f : Flags) (bs rest : List ℕ) (end new c width columns : ℕ) (blank b : Bool) → IsFront max f bs end blank width
    → drop end bs ≡ encode_utf8 c ++ rest → new ≡ end + length (encode_utf8 c) → columns ≡ char_columns c → columns ≤ len_utf8 c
    → b ≡ is_blank (record { char = c; flags = f }) → (end ≡ 0) ⊎ ((b ≡ blank) × (width + columns ≤ max)) → HasFront max f bs rest new b (width + columns)
one_more max f bs rest end new c width columns blank b front parts moved counted narrow same fits =
    let one : end + len_utf8 c ≡ new = omega (arith, moved, length-encode c) in
    let fits_in : (end ≡ 0) ⊎ ((b ≡ blank) × (width + char_columns c ≤ max)) = subst (λ n. (end ≡ 0) ⊎ ((b ≡ blank) × (width + n ≤ max))) counted fits in
    let longer = front_more max f bs rest end c width blank b front parts (subst (λ n. n ≤ len_utf8 c) counted narrow) (sym same) fits_in in
    record { front = rw (sym one, counted) longer; position = rw (sym one) (drop_past_char bs rest end c parts) }
