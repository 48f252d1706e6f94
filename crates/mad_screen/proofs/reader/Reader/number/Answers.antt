use Rattle.std.proofs.Common.{◌≡◌, ◌≢◌, ℕ, List, false, true, true≢false, length, vec_len, ap, sym, ◌∙◌, arith}
use Rattle.std.specs.Prelude.{is_some, option_map}
use Rattle.std.proofs.lemmas.Bool.{eqb-true}
use Rattle.std.proofs.lemmas.List.{nil_from_length}
use Rattle.mad_screen.specs.declared.reader.Reader.{Reader}
use Rattle.mad_screen.specs.Readers.{reading_of}
use Rattle.mad_screen.specs.Terminal.{feed, is_digit, perform, resting}
use Rattle.mad_screen.proofs.Letters.{below_digits, above_digits, number_ended, none_ended, performed}
use Rattle.mad_screen.proofs.reader.Reader.number.Goals.{else-c-ge48-via-then-c-ge48+else-c-le57, else-c-ge48-via-else-c-ge48, else-c-eq59-via-then-c-eq59+else-is_some, else-c-eq59-via-else-c-eq59, in-Some+in_ok-push-in-Some, in-None}
use Rattle.mad_screen.proofs.reader.Reader.number.Goals as goal

pub returns : goal.returns
returns c =
    let old = c.args.self.now in
    let here = c.match-self.self in
    let other : is_digit c.args.c ≡ false = elim c.else-c-ge48.branch [
      | else-c-ge48-via-then-c-ge48+else-c-le57 v ↦ above_digits c.args.c v.if-c-le57.false
      | else-c-ge48-via-else-c-ge48 v ↦ below_digits c.args.c v.if-c-ge48.false
    ] in
    let told : option_map resting (perform c.args.c here.numbers.items here.screen) ≡ option_map resting (perform c.args.c c.deref.result.now here.screen) =
    ap (λ (l : List ℕ). option_map resting (perform c.args.c l here.screen)) (sym c.deref.ensures.value) in
    let fed : feed (reading_of old) c.args.c ≡ option_map resting (perform c.args.c here.numbers.items here.screen) = elim c.match-self.branch [
      | in-Some+in_ok-push-in-Some w ↦
          let more : is_some here.digits ≡ true = ap (λ (r : Reader). is_some r.digits) w.self-is ∙ ap is_some w.in-Some.is in
          let letter : c.args.c ≢ 59 = elim c.else-c-eq59.branch [
            | else-c-eq59-via-then-c-eq59+else-is_some v ↦ absurd (true≢false (sym more ∙ sym v.is_some-then-c-eq59.ensures ∙ v.if-is_some.false))
            | else-c-eq59-via-else-c-eq59 v ↦ v.if-c-eq59.false
          ] in
          number_ended old.mode old.screen old.numbers.items old.digits w.in-Some.n c.args.c c.requires w.in-Some.is other letter
          ∙ ap (λ (l : List ℕ). option_map resting (perform c.args.c l old.screen)) (sym w.in_ok-push-in-Some.ensures.items)
          ∙ ap (λ (r : Reader). option_map resting (perform c.args.c r.numbers.items r.screen)) (sym w.self-is)
      | in-None w ↦
          let none : vec_len old.numbers ≡ 0 = eqb-true _ _ (sym w.is_empty.ensures ∙ w.if-is_empty.true) in
          let empty : length old.numbers.items ≡ 0 = omega (arith, none, old.numbers.ok.0) in
          none_ended old.mode old.screen old.numbers.items old.digits c.args.c c.requires w.in-None.is other (nil_from_length old.numbers.items empty)
          ∙ ap (λ (r : Reader). option_map resting (perform c.args.c r.numbers.items r.screen)) (sym w.self-is)
    ] in
    performed _ _ _ _ (fed ∙ told) c.perform.ensures
