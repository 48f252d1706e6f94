-- A text of which each byte stands for itself.
use Rattle.std.proofs.Common.{◌≡◌, ℕ, ◌+◌, ◌-◌, true, List, [], ◌++◌, length, map, refl, sym, ap, ◌∙◌, arith}
use Rattle.std.proofs.lemmas.List.{append-nil, take_all}
use Rattle.markdown_pieces.specs.Cut.{whole_text}
use Rattle.markdown_emphasis.specs.Flags.{flags_of}
use Rattle.markdown_inlines.specs.Links.{overs_from}
use Rattle.markdown_inlines.specs.Looks.{plain_look}
use Rattle.markdown_inlines.specs.Tags.{tagged_from}
use Rattle.markdown_inlines.specs.Parts.{shown_text, part}
use Rattle.markdown_inlines.specs.Styled.{shown_with}
use Rattle.markdown_inlines.specs.Inlines.{all_over, shown_from, left_of, shown_cut, are_shown, links_from}
use Rattle.markdown_inlines.proofs.PrintableLemmas.{from_shown}

whole_part : (text : List ℕ) → part text 0 (length text - 1 + 1) ≡ text
whole_part text = take_all (length text - 1 + 1) text (omega arith)

-- its only piece shows it as it is
pub quiet_shown : (text : List ℕ) → map (shown_with plain_look) (shown_text text) ≡ shown_cut (whole_text text) text
unfolding shown_from overs_from tagged_from
quiet_shown text =
    let own : List ℕ = shown_text (part text 0 (length text - 1 + 1)) in
    ap (λ (t : List ℕ). map (shown_with plain_look) (shown_text t)) (sym (whole_part text)) ∙ ap (map (shown_with plain_look)) (sym (append-nil own))
    ∙ sym (append-nil (map (shown_with plain_look) (own ++ [])))

-- nothing but printable characters
pub quiet_printable : (text : List ℕ) → are_shown (shown_cut (whole_text text) text) ≡ true
quiet_printable text = from_shown text 0 (whole_text text).pieces (flags_of (length (whole_text text).pieces) (whole_text text).pairs) (left_of (whole_text text).pairs (whole_text text).pieces) (all_over (whole_text text).pieces)

-- it has no link
pub quiet_links : (text : List ℕ) → links_from 0 (whole_text text).pieces ≡ []
unfolding links_from
quiet_links text = refl
