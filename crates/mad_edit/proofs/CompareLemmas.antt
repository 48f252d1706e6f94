-- Two editors are the same exactly where the lines, the cursors and the tails that they keep are.
use Rattle.std.proofs.Common.{ℕ, ◌≡◌, List, [], ◌∷◌, drop, get_or, ap, sym, ◌∙◌, refl, Bool, Option, None, Some, IsTrue, ◌↔◌}
use Rattle.std.specs.Bool.{Decides, one_answer}
use Rattle.std.specs.Cmp.{first_so, second_so, unsigned_Decides}
use Rattle.std.specs.Cmp.Lexicographic.{pointwise, bytes_decides}
use Rattle.std.specs.Option.{option_eq, unwrap_or}
use Rattle.std.proofs.lemmas.Bool.{and_from}
use Rattle.mad_edit_lines.specs.declared.line.Line.{Line}
use Rattle.mad_edit_lines.specs.declared.position.Pos.{Pos}
use Rattle.mad_edit_lines.specs.TextLines.{lines, chars_of, lines_of, text_of, offset_of}
use Rattle.mad_edit.proofs.EditorLemmas.{Seen, lines_seen, line_seen, index_seen}
use Rattle.mad_edit.specs.Editor.{Editor, IsValid, same_editor, same_position, cursor_line, cursor_index}

abbrev position : ℕ → ℕ → Pos
position y x = record { y = y; x = x }

-- whether two positions are the same
pub same_position_decides : (p q : Pos) → Decides (same_position p q) (p ≡ q)
same_position_decides p q = (
  λ e.
      let y : p.y ≡ q.y = (unsigned_Decides p.y q.y).0 (first_so _ _ e) in
      let x : p.x ≡ q.x = (unsigned_Decides p.x q.x).0 (second_so _ _ e) in
      λ i. position (y i) (x i),
  λ e. and_from _ _ ((unsigned_Decides p.y q.y).1 (ap (λ (r : Pos). r.y) e)) ((unsigned_Decides p.x q.x).1 (ap (λ (r : Pos). r.x) e)),
)

-- whether two tails are the same
pub same_tail_decides : (s t : Option Pos) → Decides (option_eq same_position s t) (s ≡ t)
same_tail_decides None None = (λ e. refl, λ e. refl)
same_tail_decides (Some p) (Some q) = (
  λ e. ap Some ((same_position_decides p q).0 e),
  λ e. (same_position_decides p q).1 (ap (λ (o : Option Pos). unwrap_or o p) e),
)
same_tail_decides _ _ = (λ e. cc, λ e. cc)

-- the test says that all is the same
same_editor_decides : (a b : Editor) → Decides (same_editor a b) (a ≡ b)
same_editor_decides a b = (
  λ e.
      let rest = second_so _ _ e in
      let text : a.text ≡ b.text = (bytes_decides a.text b.text).0 (first_so _ _ e) in
      let offset : a.offset ≡ b.offset = (unsigned_Decides a.offset b.offset).0 (first_so _ _ rest) in
      let tail : a.tail ≡ b.tail = (same_tail_decides a.tail b.tail).0 (second_so _ _ rest) in
      λ i. record { text = text i; offset = offset i; tail = tail i },
  λ e.
      and_from _ _ ((bytes_decides a.text b.text).1 (ap (λ (x : Editor). x.text) e))
      (and_from _ _ ((unsigned_Decides a.offset b.offset).1 (ap (λ (x : Editor). x.offset) e)) ((same_tail_decides a.tail b.tail).1 (ap (λ (x : Editor). x.tail) e))),
)

-- lines that are compared one by one
pub lines_decide : (E : Line → Line → Bool) → ((l m : Line) → Decides (E l m) (chars_of l ≡ chars_of m)) → (ls ms : List Line) → Decides (pointwise E ls ms) (lines_of ls ≡ lines_of ms)
lines_decide E d [] [] = (λ e. refl, λ e. refl)
lines_decide E d (l ∷ ls) (m ∷ ms) = (
  λ e.
      let head = (d l m).0 (first_so (E l m) (pointwise E ls ms) e) in
      let tail = (lines_decide E d ls ms).0 (second_so (E l m) (pointwise E ls ms) e) in
      λ i. head i ∷ tail i,
  λ e. and_from (E l m) (pointwise E ls ms) ((d l m).1 (ap (λ t. get_or t 0 []) e)) ((lines_decide E d ls ms).1 (ap (drop 1) e)),
)
lines_decide E d _ _ = (λ e. cc, λ e. cc)

-- what is kept is the same exactly where the editors are
pub same_kept : (r : Bool) (a b : Editor) (ls ms : List (List ℕ)) (p q : Pos) (s t : Option Pos) → Seen a ls p s → Seen b ms q t → IsValid ls p s → IsValid ms q t → Decides r ((ls ≡ ms) × (p ≡ q) × (s ≡ t)) → (r ≡ same_editor a b) × (IsTrue r ↔ (a ≡ b))
same_kept r a b ls ms p q s t seen also h k d =
    let made : (ls ≡ ms) × (p ≡ q) × (s ≡ t) → a ≡ b = λ w.
    sym seen ∙ (λ i. let e : Editor = record { text = text_of (w.0 i); offset = offset_of (w.0 i) (w.1 i); tail = w.2 i } in e) ∙ also in
    let kept : a ≡ b → (ls ≡ ms) × (p ≡ q) × (s ≡ t) = λ e.
    let y : p.y ≡ q.y = line_seen a ls p s seen h ∙ ap cursor_line e ∙ sym (line_seen b ms q t also k) in
    let x : p.x ≡ q.x = index_seen a ls p s seen h ∙ ap cursor_index e ∙ sym (index_seen b ms q t also k) in (
      sym (lines_seen a ls p s seen h) ∙ ap (λ (z : Editor). lines z.text) e ∙ lines_seen b ms q t also k,
      λ i. position (y i) (x i),
      ap (λ (z : Editor). z.tail) (seen ∙ e ∙ sym also),
    ) in
    (one_answer r (same_editor a b) (λ v. made (d.0 v), λ e. d.1 (kept e)) (same_editor_decides a b), (λ v. made (d.0 v), λ e. d.1 (kept e)))
