use Rattle.std.proofs.Common.{ℕ, ◌≡◌, ◌++◌, ◌∷◌, [], List, length, get_or, ap, sym, ◌∙◌, arith, rules, length-append, refl, IsTrue, Bool, true, false, not, Option, None, Some}
use Rattle.std.specs.Option.{is_some}
use Rattle.std.specs.Iterator.{YieldsFirst}
use Rattle.std.specs.Str.{chars}
use Rattle.std.proofs.lemmas.List.{map-id, get_or_at, append-nil}
use Rattle.std.proofs.lemmas.Iterator.{YieldsList-from_chars}
use Rattle.std.proofs.lemmas.Iterator.Consumers.{YieldsList-end, YieldsList-turn}
use Rattle.mad_edit.proofs.content.InputFieldContent.is_str.Goals as goal

pub returns-in_default : goal.returns-in_default
returns-in_default c =
    let turn = YieldsList-turn (YieldsList-from_chars c.args.text.now c.utf8.text cc) c.loop-c.yielded _ c.loop-c.yielded_by _ _ c.in-Some.c c.in-Some.is c.next.ensures.steps in
    let none : c.loop-c.own ≡ [] = c.in_default.ensures.steps.0 in
    (λ h. search rules, λ same. absurd (omega (arith, ap length same, ap length c.loop-c.invariant, length-append c.loop-c.yielded c.loop-c.own, ap length none, turn.0)))

pub returns-then-own_char-c : goal.returns-then-own_char-c
returns-then-own_char-c c =
    let turn = YieldsList-turn (YieldsList-from_chars c.args.text.now c.utf8.text cc) c.loop-c.yielded _ c.loop-c.yielded_by _ _ c.in-Some.c c.in-Some.is c.next.ensures.steps in
    let n = length c.loop-c.yielded in
    let own : c.loop-c.own ≡ c.in-Some-next.own_char ∷ c.next-in-loop-c.new.self = c.in-Some-next.ensures.steps in (
      λ h. search rules,
      λ same. absurd (c.if-own_char-c.true
          (sym (get_or_at c.loop-c.yielded c.in-Some-next.own_char c.next-in-loop-c.new.self c.in-Some.c n refl)
          ∙ ap (λ (t : List ℕ). get_or (c.loop-c.yielded ++ t) n c.in-Some.c) (sym own)
          ∙ ap (λ (t : List ℕ). get_or t n c.in-Some.c) (sym c.loop-c.invariant ∙ same)
          ∙ sym turn.1)),
    )

-- nothing is left exactly where the texts are the same
ended : (r : Option ℕ) (b : Bool) (t ys own rest cs : List ℕ) → is_some r ≡ not b → YieldsFirst {A = ℕ} (λ (s : List ℕ). s) own r rest → t ≡ ys ++ own → ys ≡ cs → (IsTrue b → t ≡ cs) × (t ≡ cs → IsTrue b)
ended None true t ys own rest cs h steps e all = (λ k. e ∙ ap (λ s. ys ++ s) steps.0 ∙ append-nil ys ∙ all, λ same. search rules)
ended (Some x) false t ys own rest cs h steps e all =
    (λ k. search rules, λ same. absurd (omega (arith, ap length same, ap length e, length-append ys own, ap length steps, ap length all)))
ended _ _ t ys own rest cs h steps e all = cc

pub returns : goal.returns
returns c =
    let all : c.loop-c.yielded ≡ chars c.args.text.now = sym (map-id c.loop-c.yielded) ∙ (YieldsList-end (YieldsList-from_chars c.args.text.now c.utf8.text cc) c.loop-c.yielded _ c.loop-c.yielded_by _ _ c.in-None.is c.next.ensures.steps).0 in
    ended c.next-2.result c.is_none.result c.args.self.now.text c.loop-c.yielded c.loop-c.own c.next-2.new.self (chars c.args.text.now) c.is_none.ensures c.next-2.ensures.steps c.loop-c.invariant all
