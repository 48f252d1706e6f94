-- Where no leaf is open nothing is held; lines come in turn.
use Rattle.std.proofs.Common.{◌≡◌, ℕ, zero, suc, Bool, true, false, ◌&&◌, ◌==◌, List, [], ◌∷◌, ◌++◌, length, replicate, refl, sym, ap, ◌∙◌, append_assoc, append-nil, if◌then◌else◌}
use Rattle.std.specs.List.{onto_first}
use Rattle.markdown_marks.specs.Bytes.{first}
use Rattle.markdown_blocks.specs.Events.{leaves}
use Rattle.markdown_blocks.specs.Lines.{is_line_end, is_pair, text_lines}
use Rattle.markdown_leaves.specs.Gather.{Gathering, closed, closed_as, left_in}
use Rattle.markdown_leaves.specs.Parts.{ends}
use Rattle.markdown_leaves.specs.Told.{told}
use Rattle.markdown_leaves.specs.declared.parts.Kind.{Kind}
use Rattle.markdown_leaves.specs.declared.parts.Kind.TheVariants.{Nothing}
use Rattle.markdown_stream.specs.Laws.{NothingIsHeld, LinesComeInTurn}

-- where no leaf is open, none ends
pub none_open : (g : Gathering) → g.kind ≡ Nothing → closed g ≡ g
unfolding closed
none_open g h = ap (λ (k : Kind). closed_as k g) h

ends_told : (n : ℕ) (g : Gathering) → g.kind ≡ Nothing → (closed (told g (leaves n))).parts ≡ g.parts ++ replicate n ends
unfolding told
ends_told zero g h = ap (λ (x : Gathering). x.parts) (none_open g h) ∙ sym (append-nil g.parts)
ends_told (suc n) g h =
    ap (λ (x : Gathering). (closed (told (left_in x) (leaves n))).parts) (none_open g h)
    ∙ ends_told n (left_in g) h
    ∙ append_assoc g.parts (ends ∷ []) (replicate n ends)

-- after a line that leaves no leaf open all that came is shown
pub nothing_is_held : NothingIsHeld
nothing_is_held r h = ends_told (length r.state.containers) r.gathering h

-- ---- lines

same_first : (bs later : List ℕ) → first (bs ++ 10 ∷ later) ≡ first (bs ++ 10 ∷ [])
same_first [] later = refl
same_first (b ∷ bs) later = refl

-- these lines are some
abbrev Some : List (List ℕ) → Type 0
Some all = (line : List ℕ) × (lines : List (List ℕ)) × (all ≡ line ∷ lines)

line_more : (b : ℕ) (later : List (List ℕ)) (pair end : Bool) → Some later → Some (if pair then later else if end then [] ∷ later else onto_first b later)
line_more b later true end h = h
line_more b later false true h = ([], later, refl)
line_more b later false false h = (b ∷ h.0, h.1, ap (onto_first b) h.2)

has_line : (front : List ℕ) → Some (text_lines (front ++ 10 ∷ []))
unfolding text_lines
has_line [] = ([], [], refl)
has_line (b ∷ bs) = line_more b (text_lines (bs ++ 10 ∷ [])) (is_pair b (bs ++ 10 ∷ [])) (is_line_end b) (has_line bs)

onto_joined : (b : ℕ) (xs ys : List (List ℕ)) (line : List ℕ) (lines : List (List ℕ)) → xs ≡ line ∷ lines → onto_first b (xs ++ ys) ≡ onto_first b xs ++ ys
onto_joined b xs ys line lines e = ap (λ (all : List (List ℕ)). onto_first b (all ++ ys)) e ∙ sym (ap (λ (all : List (List ℕ)). onto_first b all ++ ys) e)

-- what follows a newline begins with a line
pub lines_come_in_turn : LinesComeInTurn
unfolding text_lines
lines_come_in_turn [] later = refl
lines_come_in_turn (b ∷ bs) later =
    ap (λ (f : ℕ). by_pair ((b == 13) && (f == 10)) (text_lines (bs ++ 10 ∷ later))) (same_first bs later)
    ∙ ap (by_pair (is_pair b (bs ++ 10 ∷ []))) (lines_come_in_turn bs later)
    ∙ joined (is_pair b (bs ++ 10 ∷ [])) (is_line_end b)
  where
    by_pair : Bool → List (List ℕ) → List (List ℕ)
    by_pair pair lines = if pair then lines else if is_line_end b then [] ∷ lines else onto_first b lines

    has : Some (text_lines (bs ++ 10 ∷ []))
    has = has_line bs

    joined : (pair end : Bool) → (if pair then text_lines (bs ++ 10 ∷ []) ++ text_lines later else if end then [] ∷ text_lines (bs ++ 10 ∷ []) ++ text_lines later else onto_first b (text_lines (bs ++ 10 ∷ []) ++ text_lines later))
        ≡ (if pair then text_lines (bs ++ 10 ∷ []) else if end then [] ∷ text_lines (bs ++ 10 ∷ []) else onto_first b (text_lines (bs ++ 10 ∷ []))) ++ text_lines later
    joined true end = refl
    joined false true = refl
    joined false false = onto_joined b (text_lines (bs ++ 10 ∷ [])) (text_lines later) has.0 has.1 has.2
