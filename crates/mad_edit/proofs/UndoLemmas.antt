-- Undoing the last of a list of cuts.
use Rattle.std.proofs.Common.{ℕ, ◌≡◌, List, [], ◌∷◌, ◌++◌, length, take, drop, min, refl, ap, sym, ◌∙◌, arith, subst, cond, true, false, Bool, nat_lt, rules}
use Rattle.std.specs.Prelude.{All, Option}
use Rattle.std.proofs.lemmas.List.{take_at, drop_at, take-append-drop}
use Rattle.std.proofs.lemmas.List.Elements.{All-append, All-take, All-drop, All-same}
use Rattle.mad_edit_lines.specs.declared.position.Pos.{Pos}
use Rattle.mad_edit_lines.specs.TextLines.{accepted, IsAcceptedChar, IsPosition, clamp, line_at, end_of}
use Rattle.mad_edit.specs.Editor.{Editor, IsReplaced, replaced, offset_at, clamp_in, clamp_tail}
use Rattle.mad_edit.specs.Undo.{Cut, Removes, LeadsTo, put_in, all_undone}
use Rattle.mad_edit.proofs.TextLemmas.{all_accepted}

-- the text before the last cut
pub leads_last : (first : List ℕ) (cuts : List Cut) (c : Cut) (last : List ℕ) → LeadsTo first (cuts ++ c ∷ []) last → (next : List ℕ) × LeadsTo first cuts next × Removes next c last
leads_last first [] c last h = (first, refl, subst (λ (t : List ℕ). Removes first c t) h.2 h.1)
leads_last first (d ∷ cuts) c last h =
    let rest = leads_last h.0 cuts c last h.2 in
    (rest.0, (h.0, h.1, rest.1), rest.2)

all_front : (xs ys : List ℕ) → All IsAcceptedChar (xs ++ ys) → All IsAcceptedChar xs
all_front xs ys h = All-same IsAcceptedChar xs (take (length xs) (xs ++ ys)) (sym (take_at xs ys (length xs) refl)) (All-take IsAcceptedChar (length xs) (xs ++ ys) h)

all_back : (xs ys : List ℕ) → All IsAcceptedChar (xs ++ ys) → All IsAcceptedChar ys
all_back xs ys h = All-same IsAcceptedChar ys (drop (length xs) (xs ++ ys)) (sym (drop_at xs ys (length xs) refl)) (All-drop IsAcceptedChar (length xs) (xs ++ ys) h)

-- what a cut leaves was in the text before
accepted_left : (before : List ℕ) (c : Cut) (after : List ℕ) → All IsAcceptedChar before → Removes before c after → All IsAcceptedChar after
accepted_left before c after h r =
    let whole = All-same IsAcceptedChar (take r.offset after ++ (c.text ++ drop r.offset after)) before (sym r.text) h in
    All-same IsAcceptedChar after (take r.offset after ++ drop r.offset after) (sym (take-append-drop r.offset after))
    (All-append IsAcceptedChar (take r.offset after) (drop r.offset after)
    (all_front (take r.offset after) (c.text ++ drop r.offset after) whole)
    (all_back c.text (drop r.offset after) (all_back (take r.offset after) (c.text ++ drop r.offset after) whole)))

-- what cuts leave is accepted where the first text was
pub accepted_along : (first : List ℕ) (cuts : List Cut) (last : List ℕ) → All IsAcceptedChar first → LeadsTo first cuts last → All IsAcceptedChar last
accepted_along first [] last h leads = All-same IsAcceptedChar last first (sym leads) h
accepted_along first (c ∷ cuts) last h leads = accepted_along leads.0 cuts last (accepted_left first c leads.0 h leads.1) leads.2

clamp_within : (b : Bool) (n m : ℕ) (p e : Pos) → b ≡ true → n ≡ p.x → (cond b (record { y = p.y; x = n }) e) ≡ p
clamp_within true n m p e h k = ap (λ (x : ℕ). let q : Pos = record { y = p.y; x = x } in q) k
clamp_within false n m p e h k = cc

-- a position of the text is the nearest to itself
pub clamp_position : (ls : List (List ℕ)) (p : Pos) → IsPosition ls p → clamp ls p ≡ p
clamp_position ls p h = clamp_within (nat_lt p.y (length ls)) (min p.x (length (line_at ls p.y))) 0 p (end_of ls) (search rules) (omega (arith, h.1))

-- the last cut undone
pub undone_last : (first : List ℕ) (cuts : List Cut) (c : Cut) (last new : List ℕ) (n : ℕ) → All IsAcceptedChar first → n ≡ offset_at last (clamp_in last c.position) → new ≡ replaced last n n c.text → LeadsTo first (cuts ++ c ∷ []) last → LeadsTo first cuts new
undone_last first cuts c last new n h at made leads =
    let step = leads_last first cuts c last leads in
    let r = step.2 in
    let same : n ≡ r.offset = at ∙ ap (offset_at last) (clamp_position _ c.position r.position.0) ∙ r.position.1 in
    let before = accepted_along first cuts step.0 h step.1 in
    let whole = All-same IsAcceptedChar (take r.offset last ++ (c.text ++ drop r.offset last)) step.0 (sym r.text) before in
    let text : accepted c.text ≡ c.text = all_accepted c.text (all_front c.text (drop r.offset last) (all_back (take r.offset last) (c.text ++ drop r.offset last) whole)) in
    subst (λ (t : List ℕ). LeadsTo first cuts t)
    (r.text ∙ ap (λ s. take r.offset last ++ (s ++ drop r.offset last)) (sym text) ∙ ap (λ m. replaced last m m c.text) (sym same) ∙ sym made) step.1

-- the last of the cuts is undone first
pub undone_more : (cuts : List Cut) (c : Cut) (e : Editor) → all_undone (cuts ++ c ∷ []) e ≡ all_undone cuts (put_in e (offset_at e.text (clamp_in e.text c.position)) c.text)
undone_more [] c e = refl
undone_more (d ∷ cuts) c e =
    ap (λ (x : Editor). put_in x (offset_at x.text (clamp_in x.text d.position)) d.text) (undone_more cuts c e)

abbrev editor : List ℕ → ℕ → Option Pos → Editor
editor text offset tail = record { text = text; offset = offset; tail = tail }

put_in_at : (e new : Editor) (n : ℕ) (cs : List ℕ) → IsReplaced (record e { offset = n }) new n n cs → new ≡ put_in e n cs
put_in_at e new n cs r =
    let tail : new.tail ≡ (put_in e n cs).tail = r.tail ∙ ap (λ (t : List ℕ). clamp_tail t e.tail) r.text in
    λ i. editor (r.text i) (r.cursor i) (tail i)

-- the cursor is put at an offset, and a text is put in there
pub put_in_there : (e there new : Editor) (n : ℕ) (cs : List ℕ) → there ≡ record e { offset = n } → IsReplaced there new there.offset there.offset cs → new ≡ put_in e n cs
put_in_there e there new n cs h r =
    put_in_at e new n cs (subst (λ (x : Editor). IsReplaced x new x.offset x.offset cs) h r)
