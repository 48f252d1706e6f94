-- The pieces of a text, one after another: each is a text of its own.
use Rattle.std.proofs.Common.{◌≡◌, ℕ, zero, suc, ◌+◌, ◌-◌, ◌<◌, ◌≤◌, ◌⊎◌, inl, inr, ⊎_elim, Bool, true, false, eqb, ltb, not, ◌&&◌, min, List, [], ◌∷◌, length, take, drop, get_or, refl, sym, ap, subst, ◌∙◌, arith, Option, Some, None, option_map}
use Rattle.std.specs.List.{prefix_len}
use Rattle.std.specs.Str.{IsUtf8, IsCharBoundary}
use Rattle.std.proofs.lemmas.Bool.{eqb-true, and_parts}
use Rattle.std.proofs.lemmas.Bool.Decides.{nat_tests}
use Rattle.std.proofs.lemmas.List.{length-drop, get_or-drop, drop-drop}
use Rattle.std.proofs.lemmas.Str.{IsUtf8-drop, IsCharBoundary-start, IsCharBoundary-before_ascii, IsCharBoundary-after_ascii, IsCharBoundary-from_rest}
use Rattle.markdown_emphasis.specs.declared.runs.Sign.TheVariants.{Star, Underscore, Tilde}
use Rattle.markdown_marks.specs.Bytes.{first, is_blank_byte, count_in_front}
use Rattle.markdown_marks.specs.Definitions.{after_label}
use Rattle.markdown_spans.specs.Ticks.{run_at}
use Rattle.markdown_spans.specs.Code.{code_with}
use Rattle.markdown_spans.specs.Entities.{escape_of, entity_of}
use Rattle.markdown_addresses.specs.Addresses.{address_len}
use Rattle.markdown_spans.specs.Html.{html_len}
use Rattle.markdown_addresses.specs.declared.bare.Bare.{Bare as BareAddress}
use Rattle.markdown_spans.specs.declared.code.Code.{Code}
use Rattle.markdown_spans.specs.declared.entities.Escape.{Escape}
use Rattle.markdown_spans.specs.declared.entities.Escape.TheVariants.{Sign as SignEscape, Break, Itself}
use Rattle.markdown_spans.specs.declared.entities.Entity.{Entity}
use Rattle.markdown_brackets.specs.declared.targets.Target.{Target}
use Rattle.markdown_brackets.specs.declared.brackets.Bracket.{Bracket}
use Rattle.markdown_brackets.specs.declared.brackets.Open.{Open}
use Rattle.markdown_brackets.specs.declared.brackets.Link.{Link}
use Rattle.markdown_brackets.specs.Labels.{label_index}
use Rattle.markdown_brackets.specs.Targets.{after_inline, inline_len, label_len, full_label_len, shortcut_len, collapsed_len, defined_as, defined, by_len, reference, target_of}
use Rattle.markdown_brackets.specs.Brackets.{Reading, is_free, nothing_read, first_open, without_first, Closed, unlinked, linked_by, target_at, closed_with, closed}
use Rattle.markdown_pieces.specs.declared.pieces.Kind.{Kind}
use Rattle.markdown_pieces.specs.declared.pieces.Kind.TheVariants.{Plain, Shown, Code as CodeKind, Address, Bare, Html as HtmlKind, Soft, Hard, Run as RunKind, Opening, Closing}
use Rattle.markdown_pieces.specs.declared.pieces.Piece.{Piece}
use Rattle.markdown_pieces.specs.Pieces.{run_piece, code_by, code_piece, escape_by, escape_piece, entity_by, entity_piece, html_by, html_piece, angle_by, angle_piece, is_hard, ends_line, break_piece, bare_if, plain_by, plain_piece, no_mark_piece, byte_before, piece_by, piece_at}
use Rattle.markdown_pieces.specs.Cut.{Step, other_step, link_len, closing_step, opening_step, read_by, step, cut_from, cut_text}
use Rattle.markdown_pieces.specs.Places.{IsInside, AreCut}
use Rattle.markdown_pieces.proofs.EndLemmas.{EndsWell, well, count_is, count_le}
use Rattle.markdown_pieces.proofs.TailLemmas.{by_cond, EndsBy, Gives, GivesLen, len_none, len_some, label_ends, inline_ends}
use Rattle.markdown_pieces.proofs.PieceEnds.{Ends, ends_at, piece_ends, code_byte, address_ends}

-- ---- targets of links

-- the last of so many bytes is of ASCII
abbrev GoodLen : List ℕ → ℕ → Type 0
GoodLen rest len = (len ≡ 0) ⊎ (get_or rest (len - 1) 0 < 128)

inline_good_by : (rest : List ℕ) (o : Option (List ℕ)) → Gives (EndsBy 41 (drop 1 rest)) o → GivesLen (GoodLen rest) (option_map (λ (after : List ℕ). length rest - length after) o)
inline_good_by rest None g = len_none (GoodLen rest)
inline_good_by rest (Some a) g =
    let ends : EndsBy 41 (drop 1 rest) a = g a refl in
    let all : length (drop 1 rest) ≡ length rest - 1 = length-drop 1 rest in
    let left : length a ≡ length (drop 1 rest) - suc ends.n = sym (ap length ends.is) ∙ length-drop (suc ends.n) (drop 1 rest) in
    let last : (length rest - length a) - 1 ≡ 1 + ends.n = omega (arith, all, left, ends.few) in
    let byte : get_or rest ((length rest - length a) - 1) 0 ≡ 41 = ap (λ i. get_or rest i 0) last ∙ sym (get_or-drop 1 rest ends.n 0) ∙ ends.byte in
    len_some (GoodLen rest) (length rest - length a) (inr (omega (arith, byte)))

inline_good : (rest : List ℕ) → GivesLen (GoodLen rest) (inline_len rest)
inline_good rest =
    by_cond (GivesLen (GoodLen rest)) (eqb (first rest) 40) _ None (λ h. inline_good_by rest (after_inline (drop 1 rest)) (inline_ends (drop 1 rest))) (λ h. len_none (GoodLen rest))

-- a label has so many bytes before its bracket
label_good_by : (text : List ℕ) (o : Option (List ℕ)) → Gives (EndsBy 93 text) o → GivesLen (λ len. get_or text len 0 ≡ 93) (option_map (λ (after : List ℕ). (length text - length after) - 1) o)
label_good_by text None g = len_none (λ len. get_or text len 0 ≡ 93)
label_good_by text (Some a) g =
    let ends : EndsBy 93 text a = g a refl in
    let left : length a ≡ length text - suc ends.n = sym (ap length ends.is) ∙ length-drop (suc ends.n) text in
    let last : (length text - length a) - 1 ≡ ends.n = omega (arith, left, ends.few) in
    len_some (λ len. get_or text len 0 ≡ 93) ((length text - length a) - 1) (ap (λ i. get_or text i 0) last ∙ ends.byte)

label_good : (text : List ℕ) → GivesLen (λ len. get_or text len 0 ≡ 93) (label_len text)
label_good text = label_good_by text (after_label 0 false false text) (label_ends 0 false false text)

full_good : (rest : List ℕ) → GivesLen (λ len. GoodLen rest (len + 2)) (full_label_len rest)
full_good rest =
    by_cond (GivesLen (λ len. GoodLen rest (len + 2))) (eqb (first rest) 91) (label_len (drop 1 rest)) None
    (λ h len e. let last : (len + 2) - 1 ≡ 1 + len = omega arith in
    let byte : get_or rest ((len + 2) - 1) 0 ≡ 93 = ap (λ i. get_or rest i 0) last ∙ sym (get_or-drop 1 rest len 0) ∙ label_good (drop 1 rest) len e in
    inr (omega (arith, byte)))
    (λ h. len_none (λ len. GoodLen rest (len + 2)))

collapsed_good : (rest : List ℕ) → GoodLen rest (collapsed_len rest)
collapsed_good rest =
    by_cond (GoodLen rest) (eqb (first rest) 91 && eqb (first (drop 1 rest)) 93) 2 0
    (λ h. let both = and_parts (eqb (first rest) 91) (eqb (first (drop 1 rest)) 93) h in
    let byte : get_or rest 1 0 ≡ 93 = sym (get_or-drop 1 rest 0 0) ∙ eqb-true (first (drop 1 rest)) 93 both.1 in inr (omega (arith, byte)))
    (λ h. inl refl)

abbrev GivesTarget : List ℕ → Option Target → Type 0
GivesTarget rest o = (t : Target) → o ≡ Some t → GoodLen rest t.len

no_target : (rest : List ℕ) → GivesTarget rest None
no_target rest t e = absurd (no e)
  where
    no : None ≡ Some t → ⊥
    no e = cc

one_target : (rest : List ℕ) (u : Target) → GoodLen rest u.len → GivesTarget rest (Some u)
one_target rest u g t e = let same : u ≡ t = cc in subst (λ (x : Target). GoodLen rest x.len) same g

by_len_good : (rest : List ℕ) (P : ℕ → Type 0) (o : Option ℕ) (by : ℕ → Option Target) (q : Option Target) → GivesLen P o → ((len : ℕ) → P len → GivesTarget rest (by len)) → GivesTarget rest q → GivesTarget rest (by_len o by q)
by_len_good rest P None by q f g h = h
by_len_good rest P (Some len) by q f g h = g len (f len refl)

defined_good : (rest : List ℕ) (len : ℕ) (o : Option ℕ) → GoodLen rest len → GivesTarget rest (option_map (defined_as len) o)
defined_good rest len None g = no_target rest
defined_good rest len (Some index) g = one_target rest (defined_as len index) g

reference_good : (labels : List (List ℕ)) (inside rest : List ℕ) → GivesTarget rest (reference labels inside rest)
reference_good labels inside rest =
    by_len_good rest (λ len. GoodLen rest (len + 2)) (full_label_len rest) (λ len. defined labels (take len (drop 1 rest)) (len + 2)) _ (full_good rest)
    (λ len g. defined_good rest (len + 2) (label_index labels (take len (drop 1 rest))) g)
    (by_len_good rest (λ len. GoodLen rest (collapsed_len rest)) (shortcut_len inside (length rest)) (λ len. defined labels (take len inside) (collapsed_len rest)) None (λ len e. collapsed_good rest)
    (λ len g. defined_good rest (collapsed_len rest) (label_index labels (take len inside)) g) (no_target rest))

target_good : (labels : List (List ℕ)) (inside rest : List ℕ) → GivesTarget rest (target_of labels inside rest)
target_good labels inside rest =
    by_len_good rest (GoodLen rest) (inline_len rest) (λ len. Some (record { definition = None; len = len })) (reference labels inside rest) (inline_good rest)
    (λ len g. one_target rest (record { definition = None; len = len }) g) (reference_good labels inside rest)

abbrev GoodLink : List ℕ → Option Link → Type 0
GoodLink rest o = GoodLen rest (link_len o)

linked_good : (rest : List ℕ) (b : Bracket) (o : Option Target) (r : Reading) → GivesTarget rest o → GoodLink rest (linked_by b o r).link
linked_good rest b None r g = inl refl
linked_good rest b (Some t) r g = g t refl

target_at_good : (labels : List (List ℕ)) (text : List ℕ) (at after : ℕ) → GivesTarget (drop after text) (target_at labels text at after)
target_at_good labels text at after =
    by_cond (GivesTarget (drop after text)) (ltb after at) None (target_of labels (drop at text) (drop after text)) (λ h. no_target (drop after text)) (λ h. target_good labels (drop at text) (drop after text))

closed_good_by : (labels : List (List ℕ)) (text : List ℕ) (after : ℕ) (o : Option Open) (r : Reading) → GoodLink (drop after text) (closed_with labels text after o r).link
closed_good_by labels text after None r = inl refl
closed_good_by labels text after (Some o) r =
    by_cond (λ (c : Closed). GoodLink (drop after text) c.link) (o.dead && not o.bracket.image) (unlinked r) _ (λ h. inl refl)
    (λ h. linked_good (drop after text) o.bracket (target_at labels text o.bracket.at after) r (target_at_good labels text o.bracket.at after))

closed_good : (labels : List (List ℕ)) (text : List ℕ) (after : ℕ) (r : Reading) → GoodLink (drop after text) (closed labels text after r).link
closed_good labels text after r = closed_good_by labels text after (first_open r.brackets) (without_first r)

-- ---- steps

closing_ends : (text : List ℕ) (at more : ℕ) → get_or text at 0 ≡ 93 → GoodLen (drop (at + 1) text) more → EndsWell (drop at text) more
closing_ends text at zero h g = let zero_more : at + 0 ≡ at = omega arith in ends_at (drop at text) 0 93 (get_or-drop at text 0 0 ∙ ap (λ i. get_or text i 0) zero_more ∙ h) (omega arith)
closing_ends text at (suc n) h g =
    ⊎_elim (λ (none : suc n ≡ 0). absurd (omega arith))
    (λ (byte : get_or (drop (at + 1) text) (suc n - 1) 0 < 128).
    let there : at + 1 + (suc n - 1) ≡ at + suc n = omega arith in
    let same : get_or (drop at text) (suc n) 0 ≡ get_or (drop (at + 1) text) (suc n - 1) 0 = get_or-drop at text (suc n) 0 ∙ ap (λ i. get_or text i 0) (sym there) ∙ sym (get_or-drop (at + 1) text (suc n - 1) 0) in
    inl (omega (arith, same, byte))) g

step_ends : (labels : List (List ℕ)) (text : List ℕ) (at index : ℕ) (r : Reading) → at < length text → Ends (drop at text) (read_by labels text at index r (drop at text)).piece
unfolding piece_at
step_ends labels text at index r within =
    let b : ℕ = get_or text at 0 in
    let rest : List ℕ = drop at text in
    let P : Step → Type 0 = λ s. Ends rest s.piece in
    let zero_more : at + 0 ≡ at = omega arith in
    let here : get_or rest 0 0 ≡ b = get_or-drop at text 0 0 ∙ ap (λ i. get_or text i 0) zero_more in
    let some : 0 < length rest = (let many : length rest ≡ length text - at = length-drop at text in omega (arith, many, within)) in
    by_cond P (eqb b 91) (opening_step false (at + 1) index 0 r) _ (λ h. ends_at rest 0 91 (here ∙ eqb-true b 91 h) (omega arith))
    (λ h1. by_cond P (eqb b 33 && eqb (first (drop (at + 1) text)) 91) (opening_step true (at + 2) index 1 r) _
    (λ h. let both = and_parts (eqb b 33) (eqb (first (drop (at + 1) text)) 91) h in
    let next : at + 1 + 0 ≡ at + 1 = omega arith in
    ends_at rest 1 91 (get_or-drop at text 1 0 ∙ ap (λ i. get_or text i 0) (sym next) ∙ sym (get_or-drop (at + 1) text 0 0) ∙ eqb-true (first (drop (at + 1) text)) 91 both.1) (omega arith))
    (λ h2. by_cond P (eqb b 93) (closing_step (closed labels text (at + 1) r)) (other_step text at index r rest)
    (λ h. closing_ends text at (link_len (closed labels text (at + 1) r).link) (eqb-true b 93 h) (closed_good labels text (at + 1) r))
    (λ h3. piece_ends (is_free r.brackets) b text at rest here some)))

-- ---- what is inside of code

read_within : (l : List ℕ) (i b : ℕ) → get_or l i 0 ≡ b → 0 < b → i < length l
read_within [] i b e h = absurd (omega (arith, e))
read_within (x ∷ xs) zero b e h = omega arith
read_within (x ∷ xs) (suc i) b e h = let more : i < length xs = read_within xs i b e h in omega arith

-- the same from a place on
abbrev InsideRest : List ℕ → Piece → Type 0
InsideRest rest p = IsInside rest 0 p.kind

code_some_inside : (rest : List ℕ) (marks : ℕ) (o : Option ℕ) → IsUtf8 rest → marks ≡ count_in_front 96 rest → 0 < marks → run_at marks 0 0 (drop marks rest) ≡ o → InsideRest rest (code_by rest (option_map (code_with marks) o))
code_some_inside rest marks None u c some e = tt
code_some_inside rest marks (Some k) u c some e =
    let last : get_or rest (marks - 1) 0 ≡ 96 = count_is 96 rest (marks - 1) (omega (arith, c, some)) in
    let few : marks ≤ length rest = omega (arith, c, count_le 96 rest) in
    let begin : IsCharBoundary rest ((marks - 1) + 1) = IsCharBoundary-after_ascii rest (marks - 1) u (omega (arith, few, some)) (omega (arith, last)) in
    let one : (marks - 1) + 1 ≡ 0 + marks = omega (arith, some) in
    let byte : get_or rest (marks + k) 0 ≡ 96 = code_byte rest marks k k e (omega arith) (omega (arith, some)) in
    let end : IsCharBoundary rest (marks + k) = IsCharBoundary-before_ascii rest (marks + k) (read_within rest (marks + k) 96 byte (omega arith)) (omega (arith, byte)) in
    let two : marks + k ≡ 0 + marks + k = omega arith in
    (subst (λ n. IsCharBoundary rest n) one begin, subst (λ n. IsCharBoundary rest n) two end)

code_inside : (rest : List ℕ) → IsUtf8 rest → InsideRest rest (code_piece rest)
code_inside rest u =
    let marks : ℕ = count_in_front 96 rest in
    by_cond (λ (o : Option Code). InsideRest rest (code_by rest o)) (eqb marks 0) None (option_map (code_with marks) (run_at marks 0 0 (drop marks rest)))
    (λ e. tt) (λ e. code_some_inside rest marks (run_at marks 0 0 (drop marks rest)) u refl (grind (arith, nat_tests)) refl)

escape_inside : (rest : List ℕ) (e : Escape) → InsideRest rest (escape_by e)
escape_inside rest (SignEscape b) = tt
escape_inside rest Break = tt
escape_inside rest Itself = tt

entity_inside : (rest : List ℕ) (o : Option Entity) → InsideRest rest (entity_by o)
entity_inside rest None = tt
entity_inside rest (Some entity) = tt

html_inside : (rest after : List ℕ) (o : Option ℕ) → InsideRest rest (html_by after o)
html_inside rest after None = tt
html_inside rest after (Some len) = tt

angle_inside_by : (rest : List ℕ) (o : Option ℕ) → IsUtf8 rest → get_or rest 0 0 ≡ 60 → GivesLen (λ len. get_or (drop 1 rest) len 0 ≡ 62) o → InsideRest rest (angle_by (drop 1 rest) o)
unfolding html_piece
angle_inside_by rest None u h g = html_inside rest (drop 1 rest) (html_len (drop 1 rest))
angle_inside_by rest (Some len) u h g =
    let byte : get_or rest (0 + 1 + len) 0 ≡ 62 = sym (get_or-drop 1 rest len 0) ∙ g len refl in (
      IsCharBoundary-after_ascii rest 0 u (read_within rest 0 60 h (omega arith)) (omega (arith, h)),
      IsCharBoundary-before_ascii rest (0 + 1 + len) (read_within rest (0 + 1 + len) 62 byte (omega arith)) (omega (arith, byte)),
    )

break_inside : (rest : List ℕ) → InsideRest rest (break_piece rest)
break_inside rest = by_cond (InsideRest rest) (is_hard rest (prefix_len is_blank_byte rest)) _ _ (λ k. tt) (λ k. tt)

plain_inside : (o : Option BareAddress) (free : Bool) (b : ℕ) (rest : List ℕ) → InsideRest rest (plain_by o free b rest)
plain_inside None free b rest = tt
plain_inside (Some bare) free b rest = tt

no_mark_inside : (free : Bool) (before : Option ℕ) (b : ℕ) (rest : List ℕ) → InsideRest rest (no_mark_piece free before b rest)
unfolding plain_piece
no_mark_inside free before b rest =
    by_cond (InsideRest rest) (ends_line rest) (break_piece rest) _ (λ h. break_inside rest) (λ h. plain_inside (bare_if free before rest) free b rest)

piece_inside : (free : Bool) (b : ℕ) (text : List ℕ) (at : ℕ) (rest : List ℕ) → get_or rest 0 0 ≡ b → IsUtf8 rest → InsideRest rest (piece_by free b text at rest)
piece_inside free b text at rest e u =
    let P : Piece → Type 0 = InsideRest rest in
    by_cond P (eqb b 96) (code_piece rest) _ (λ h. code_inside rest u)
    (λ h1. by_cond P (eqb b 42) (run_piece Star text at rest) _ (λ h. tt)
    (λ h2. by_cond P (eqb b 95) (run_piece Underscore text at rest) _ (λ h. tt)
    (λ h3. by_cond P (eqb b 126) (run_piece Tilde text at rest) _ (λ h. tt)
    (λ h4. by_cond P (eqb b 92) (escape_piece (drop 1 rest)) _ (λ h. escape_inside rest (escape_of (drop 1 rest)))
    (λ h5. by_cond P (eqb b 38) (entity_piece (drop 1 rest)) _ (λ h. entity_inside rest (entity_of (drop 1 rest)))
    (λ h6. by_cond P (eqb b 60) (angle_piece (drop 1 rest)) (no_mark_piece free (byte_before text at) b rest) (λ h. angle_inside_by rest (address_len (drop 1 rest)) u (e ∙ eqb-true b 60 h) (address_ends (drop 1 rest)))
    (λ h7. no_mark_inside free (byte_before text at) b rest)))))))

step_inside : (labels : List (List ℕ)) (text : List ℕ) (at index : ℕ) (r : Reading) → IsUtf8 (drop at text) → InsideRest (drop at text) (read_by labels text at index r (drop at text)).piece
unfolding piece_at
step_inside labels text at index r u =
    let b : ℕ = get_or text at 0 in
    let rest : List ℕ = drop at text in
    let P : Step → Type 0 = λ s. InsideRest rest s.piece in
    by_cond P (eqb b 91) (opening_step false (at + 1) index 0 r) _ (λ h. tt)
    (λ h1. by_cond P (eqb b 33 && eqb (first (drop (at + 1) text)) 91) (opening_step true (at + 2) index 1 r) _ (λ h. tt)
    (λ h2. by_cond P (eqb b 93) (closing_step (closed labels text (at + 1) r)) (other_step text at index r rest) (λ h. tt) (λ h3. piece_inside (is_free r.brackets) b text at rest (let zero_more : at + 0 ≡ at = omega arith in get_or-drop at text 0 0 ∙ ap (λ i. get_or text i 0) zero_more) u)))

-- ---- all pieces

inside_text : (text : List ℕ) (at : ℕ) (k : Kind) → at ≤ length text → IsInside (drop at text) 0 k → IsInside text at k
inside_text text at k within h = inside_by text at k within h
  where
    inside_by : (text : List ℕ) (at : ℕ) (k : Kind) → at ≤ length text → IsInside (drop at text) 0 k → IsInside text at k
    inside_by text at (CodeKind code) within h =
        let zero_more : 0 + code.marks ≡ code.marks = omega arith in
        let there : at + (0 + code.marks + code.len) ≡ at + code.marks + code.len = omega arith in (
          subst (λ n. IsCharBoundary text (at + n)) zero_more (IsCharBoundary-from_rest text at (0 + code.marks) within h.0),
          subst (λ n. IsCharBoundary text n) there (IsCharBoundary-from_rest text at (0 + code.marks + code.len) within h.1),
        )
    inside_by text at Plain within h = tt
    inside_by text at (Shown c second) within h = tt
    inside_by text at (Address len scheme) within h =
        let one : at + (0 + 1) ≡ at + 1 = omega arith in
        let two : at + (0 + 1 + len) ≡ at + 1 + len = omega arith in
        (subst (λ n. IsCharBoundary text n) one (IsCharBoundary-from_rest text at (0 + 1) within h.0), subst (λ n. IsCharBoundary text n) two (IsCharBoundary-from_rest text at (0 + 1 + len) within h.1))
    inside_by text at (Bare scheme) within h = tt
    inside_by text at (HtmlKind html) within h = tt
    inside_by text at Soft within h = tt
    inside_by text at Hard within h = tt
    inside_by text at (RunKind run) within h = tt
    inside_by text at (Opening image) within h = tt
    inside_by text at (Closing link) within h = tt

record IsPlaced (text : List ℕ) (at : ℕ) (p : Piece) : Type 0 where
  inside : IsInside text at p.kind
  few : at + p.more < length text
  end : IsCharBoundary text (at + (p.more + 1))

step_placed : (labels : List (List ℕ)) (text : List ℕ) (at index : ℕ) (r : Reading) → IsUtf8 text → at < length text → IsCharBoundary text at → IsPlaced text at (step labels text at index r (drop at text)).piece
unfolding step
step_placed labels text at index r u within cut =
    let rest : List ℕ = drop at text in
    let p : Piece = (read_by labels text at index r rest).piece in
    let v : IsUtf8 rest = IsUtf8-drop text at u cut in
    let many : length rest ≡ length text - at = length-drop at text in
    let same : min p.more (length rest - 1) + 1 ≡ min p.more (length text - at - 1) + 1 = omega (arith, many) in
    let end : IsCharBoundary rest (min p.more (length rest - 1) + 1) = well rest p.more v (omega (arith, many, within)) (step_ends labels text at index r within) in
    record {
      inside = inside_text text at p.kind (omega (arith, within)) (step_inside labels text at index r v);
      few = omega (arith, within);
      end = IsCharBoundary-from_rest text at (min p.more (length text - at - 1) + 1) (omega (arith, within)) (subst (λ n. IsCharBoundary rest n) same end);
    }

cut_placed : (labels : List (List ℕ)) (text : List ℕ) (skip at index : ℕ) (r : Reading) (bs : List ℕ) → IsUtf8 text → bs ≡ drop at text → at ≤ length text → skip ≤ length bs → IsCharBoundary text (at + skip)
    → AreCut text (at + skip) (cut_from labels text skip at index r bs).pieces
unfolding cut_from
cut_placed labels text skip at index r [] u e within few cut = let all : length text - at ≡ 0 = sym (length-drop at text) ∙ sym (ap length e) in omega (arith, all, few, within)
cut_placed labels text zero at index r (b ∷ bs) u e within few cut =
    let many : suc (length bs) ≡ length text - at = ap length e ∙ length-drop at text in
    let more : at < length text = omega (arith, many) in
    let zero_more : at + 0 ≡ at = omega arith in
    let here : IsCharBoundary text at = subst (λ n. IsCharBoundary text n) zero_more cut in
    let s : Step = step labels text at index r (b ∷ bs) in
    let same : step labels text at index r (drop at text) ≡ s = ap (step labels text at index r) (sym e) in
    let placed : IsPlaced text at s.piece = subst (λ (t : Step). IsPlaced text at t.piece) same (step_placed labels text at index r u more here) in
    let next : bs ≡ drop (at + 1) text = ap (drop 1) e ∙ drop-drop 1 at text in
    let there : at + 1 + s.piece.more ≡ at + (s.piece.more + 1) = omega arith in
    let after : IsCharBoundary text (at + 1 + s.piece.more) = subst (λ n. IsCharBoundary text n) (sym there) placed.end in
    let rest : AreCut text (at + 1 + s.piece.more) (cut_from labels text s.piece.more (at + 1) (index + 1) s.reading bs).pieces =
    cut_placed labels text s.piece.more (at + 1) (index + 1) s.reading bs u next (omega (arith, more)) (omega (arith, many, placed.few)) after in
    let start : at ≡ at + 0 = omega arith in
    let now : AreCut text at (cut_from labels text 0 at index r (b ∷ bs)).pieces =
    (placed.inside, placed.few, placed.end, subst (λ n. AreCut text n (cut_from labels text s.piece.more (at + 1) (index + 1) s.reading bs).pieces) there rest) in
    subst (λ n. AreCut text n (cut_from labels text 0 at index r (b ∷ bs)).pieces) start now
cut_placed labels text (suc skip) at index r (b ∷ bs) u e within few cut =
    let many : suc (length bs) ≡ length text - at = ap length e ∙ length-drop at text in
    let next : bs ≡ drop (at + 1) text = ap (drop 1) e ∙ drop-drop 1 at text in
    let there : at + suc skip ≡ at + 1 + skip = omega arith in
    let rest : AreCut text (at + 1 + skip) (cut_from labels text skip (at + 1) index r bs).pieces =
    cut_placed labels text skip (at + 1) index r bs u next (omega (arith, many)) (omega (arith, few)) (subst (λ n. IsCharBoundary text n) there cut) in
    subst (λ n. AreCut text n (cut_from labels text skip (at + 1) index r bs).pieces) (sym there) rest

-- a text is cut where it may be: each of its pieces is a text of its own
pub text_placed : (labels : List (List ℕ)) (text : List ℕ) → IsUtf8 text → AreCut text 0 (cut_text labels text).pieces
text_placed labels text u = cut_placed labels text 0 0 0 nothing_read text u refl (omega arith) (omega arith) (IsCharBoundary-start text u)
