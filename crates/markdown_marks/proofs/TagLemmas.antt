-- One byte more of a tag.
use Rattle.std.proofs.Common.{◌≡◌, ℕ, ◌<◌, ◌+◌, List, drop, get_or, length, refl, ap, ◌∙◌, ◌∷◌}
use Rattle.std.proofs.lemmas.List.{drop_more}
use Rattle.markdown_marks.specs.Html.{next_place, ends_alone}
use Rattle.markdown_marks.specs.declared.tags.Place.{Place}

alone_cons : (place : Place) (b : ℕ) (bs : List ℕ) → ends_alone place (b ∷ bs) ≡ ends_alone (next_place place b) bs
unfolding ends_alone
alone_cons place b bs = refl

-- the byte at an index leads to a place, and those behind it go on from there
pub alone_more : (place : Place) (bytes : List ℕ) (i d : ℕ) → i < length bytes → ends_alone place (drop i bytes) ≡ ends_alone (next_place place (get_or bytes i d)) (drop (i + 1) bytes)
alone_more place bytes i d within = ap (ends_alone place) (drop_more bytes i d within) ∙ alone_cons place (get_or bytes i d) (drop (i + 1) bytes)
