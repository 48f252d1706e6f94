-- Where a paragraph is open behind some lines, it is the last leaf that they tell.
use Rattle.std.proofs.Common.{◌≡◌, ℕ, zero, suc, ◌+◌, ◌==◌, ◌&&◌, Bool, true, false, List, [], ◌∷◌, ◌++◌, length, take, drop, replicate, Option, Some, None, refl, sym, ap, subst, ◌∙◌, append_assoc, append-nil, arith, length-append, take-append-drop, if◌then◌else◌}
use Rattle.std.proofs.lemmas.Bool.{both_ways, eqb-true, false_from_ne_true}
use Rattle.markdown_marks.specs.Remaining.{Remaining}
use Rattle.markdown_blocks.specs.Events.{events_from, leaves}
use Rattle.markdown_blocks.specs.Leaves.{is_paragraph}
use Rattle.markdown_blocks.proofs.WithinLemmas.{at_first}
use Rattle.markdown_leaves.specs.Defining.{cut_lines}
use Rattle.markdown_leaves.specs.Gather.{Gathering, add_block, add_unless_empty, add_words, closed, closed_as, left, nothing_told}
use Rattle.markdown_leaves.specs.Parts.{BlockContent, PartContent, begins, ends, block}
use Rattle.markdown_leaves.specs.Told.{told}
use Rattle.markdown_leaves.specs.declared.parts.Kind.{Kind}
use Rattle.markdown_leaves.specs.declared.parts.Kind.TheVariants.{Nothing, Paragraph, Definitions}
use Rattle.markdown_laws.proofs.FenceLemmas.{ended}
use Rattle.markdown_laws.proofs.HeldLemmas.{behind_lines}
use Rattle.markdown_sign_laws.specs.Ends.{EndsInBlock, is_words}
use Rattle.markdown_sign_laws.proofs.AllToldLemmas.{gathered}
use Rattle.markdown_sign_laws.proofs.IdleLemmas.{closed_kind}
use Rattle.markdown_sign_laws.proofs.RunLemmas.{same_some}

-- the kind of the last leaf of some parts, or else this
abbrev last_of : Option Kind → List PartContent → Option Kind
last_of o [] = o
last_of o (begins container apart ∷ parts) = last_of o parts
last_of o (ends ∷ parts) = last_of o parts
last_of o (block leaf ∷ parts) = last_of (Some leaf.kind) parts

last_both : (o : Option Kind) (xs ys : List PartContent) → last_of o (xs ++ ys) ≡ last_of (last_of o xs) ys
last_both o [] ys = refl
last_both o (begins container apart ∷ xs) ys = last_both o xs ys
last_both o (ends ∷ xs) ys = last_both o xs ys
last_both o (block leaf ∷ xs) ys = last_both (Some leaf.kind) xs ys

last_ends : (o : Option Kind) (n : ℕ) → last_of o (replicate n ends) ≡ o
last_ends o zero = refl
last_ends o (suc n) = last_ends o n

last_block : (before : List PartContent) (leaf : BlockContent) (n : ℕ) → last_of None (before ++ block leaf ∷ replicate n ends) ≡ Some leaf.kind
last_block before leaf n = last_both None before (block leaf ∷ replicate n ends) ∙ last_ends (Some leaf.kind) n

-- ---- containers that end

closed_none : (g : Gathering) → g.kind ≡ Nothing → closed g ≡ g
unfolding closed
closed_none g e = ap (λ (k : Kind). closed_as k g) e

left_parts : (g : Gathering) → (closed (left g)).parts ≡ (closed g).parts ++ ends ∷ []
left_parts g = ap (λ (x : Gathering). x.parts) (closed_none (left g) (closed_kind g))

leaves_parts : (n : ℕ) (g : Gathering) → (closed (told g (leaves n))).parts ≡ (closed g).parts ++ replicate n ends
unfolding told
leaves_parts zero g = sym (append-nil (closed g).parts)
leaves_parts (suc n) g = leaves_parts n (left g) ∙ ap (λ (ps : List PartContent). ps ++ replicate n ends) (left_parts g) ∙ append_assoc (closed g).parts (ends ∷ []) (replicate n ends)

-- ---- a paragraph

-- the last leaf of some parts is a paragraph, or definitions
record EndsInWords (parts : List PartContent) : Type 0 where
  kind : Kind
  last : last_of None parts ≡ Some kind
  words : is_words kind ≡ true

one_told : (kind : Kind) (apart : Bool) (lines : List Remaining) (parts : List PartContent) → is_words kind ≡ true → EndsInWords (add_block kind apart lines parts)
one_told kind apart lines parts w = record { kind = kind; last = last_block parts (record { kind = kind; apart = apart; lines = lines }) 0; words = w }

none_long : (cut : ℕ) (lines : List Remaining) → (length (take cut lines) == 0) ≡ true → (length (drop cut lines) == 0) ≡ true → (length lines == 0) ≡ true
none_long cut lines e f =
    let all : length (take cut lines) + length (drop cut lines) ≡ length lines = sym (length-append (take cut lines) (drop cut lines)) ∙ ap length (take-append-drop cut lines) in
    let none : length lines ≡ 0 = omega (arith, all, eqb-true (length (take cut lines)) 0 e, eqb-true (length (drop cut lines)) 0 f) in
    ap (λ (n : ℕ). n == 0) none

words_told : (apart : Bool) (lines : List Remaining) (parts : List PartContent) → (length lines == 0) ≡ false → EndsInWords (add_words Paragraph apart lines parts)
words_told apart lines parts some = by_back (length (drop cut lines) == 0) refl
  where
    cut : ℕ
    cut = cut_lines lines

    front : List PartContent
    front = add_unless_empty Definitions apart (take cut lines) parts

    by_front : (t : Bool) → (length (take cut lines) == 0) ≡ t → (length (drop cut lines) == 0) ≡ true → EndsInWords (if t then parts else add_block Definitions apart (take cut lines) parts)
    by_front true e f = absurd (both_ways (length lines == 0) some (none_long cut lines e f))
    by_front false e f = one_told Definitions apart (take cut lines) parts refl

    by_back : (t : Bool) → (length (drop cut lines) == 0) ≡ t → EndsInWords (if t then front else add_block Paragraph (apart && (cut == 0)) (drop cut lines) front)
    by_back true e = by_front (length (take cut lines) == 0) refl e
    by_back false e = one_told Paragraph (apart && (cut == 0)) (drop cut lines) front refl

closed_words : (g : Gathering) → g.kind ≡ Paragraph → (length g.lines == 0) ≡ false → EndsInWords (closed g).parts
unfolding closed
closed_words g e some = subst (λ (k : Kind). EndsInWords (closed_as k g).parts) (sym e) (words_told g.apart g.lines g.parts some)

with_ends : (parts : List PartContent) (n : ℕ) → EndsInWords parts → EndsInWords (parts ++ replicate n ends)
with_ends parts n h = record { kind = h.kind; last = last_both None parts (replicate n ends) ∙ last_ends (last_of None parts) n ∙ h.last; words = h.words }

-- where a paragraph is open behind some lines, it is their last leaf
paragraph_last : (lines : List (List ℕ)) → is_paragraph (behind_lines at_first lines).leaf ≡ true → EndsInWords (ended nothing_told (events_from at_first lines))
paragraph_last lines e =
    let found = gathered lines in
    let words = found.words e in
    subst EndsInWords (sym (found.parts ∙ leaves_parts found.count found.last)) (with_ends (closed found.last).parts found.count (closed_words found.last words.0 words.1))

-- where the last leaf of some lines is none, no paragraph is open behind them
pub none_open_behind : (lines : List (List ℕ)) → EndsInBlock (ended nothing_told (events_from at_first lines)) → is_paragraph (behind_lines at_first lines).leaf ≡ false
none_open_behind lines h =
    false_from_ne_true (is_paragraph (behind_lines at_first lines).leaf)
    (λ e.
    let found = paragraph_last lines e in
    let kinds : Some found.kind ≡ Some h.leaf.kind = sym found.last ∙ ap (λ (ps : List PartContent). last_of None ps) h.whole ∙ last_block h.before h.leaf h.count in
    both_ways (is_words h.leaf.kind) h.no_words (ap is_words (sym (same_some found.kind h.leaf.kind kinds)) ∙ found.words))
