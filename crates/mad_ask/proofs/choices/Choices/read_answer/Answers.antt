use Rattle.std.proofs.Common.{◌≡◌, ◌∙◌, ◌++◌, ◌∷◌, [], ℕ, List, Global, Vec, inl, inr, ap, arith, refl, subst, sym}
use Rattle.mad_term.specs.Trace.{Trace, Ended, IsAtItsEnd, ahead}
use Rattle.mad_ask.specs.declared.ask_error.AskError.TheVariants.{IO, Memory}
use Rattle.mad_ask.specs.Offers.{offered_by}
use Rattle.mad_ask.specs.Reading.{IsRefused}
use Rattle.mad_ask.specs.Replies.{EndGives}
use Rattle.mad_ask.proofs.DecidingLemmas.{refused_exit}
use Rattle.mad_ask.proofs.ReadingLemmas.{at_none, at_some, byte_lost, ends, goes_on, goes_on_after, line_decided, reader_failed, reply_failed, starts}
use Rattle.mad_ask.proofs.choices.Choices.read_answer.Goals as goal
use Rattle.mad_ask.proofs.choices.Choices.read_answer.Goals.{then-byte-eq10+in_ok-answer+in_default-2, else-byte-eq10}

pub loop-read-init : goal.loop-read-init
loop-read-init g c = starts _ _ _ c.new-line.ensures.items

pub returns-in_default : goal.returns-in_default
returns-in_default g c =
    let ended : Ended (g.I.Source.seen c.loop-read.reader) (g.I.Source.seen c.get.new.self) = at_none c.in_ok-byte.field-0 _ _ c.in_default.is c.in_ok-byte.ensures in
    let gives = subst (λ (l : List ℕ). EndGives (offered_by c.args.self.now) l (g.O.Out.seen c.loop-read.writer) c.end.result (g.O.Out.seen c.end.new.writer)) c.as_slice.ensures.value c.end.ensures in
    ends _ _ _ _ _ _ c.loop-read.invariant ended.same (inl (subst (λ (t : Trace). IsAtItsEnd t) (sym ended.same) ended.left)) c.end.result gives

pub returns-in_err-byte : goal.returns-in_err-byte
returns-in_err-byte g c =
    refused_exit c.from_residual.result (IO c.in_err-byte.field-0.0) _ (λ e. IsRefused (offered_by c.args.self.now) (record { input = g.I.Source.seen c.args.reader.now; output = g.O.Out.seen c.args.writer.now }) e (record { input = g.I.Source.seen c.get.new.self; output = g.O.Out.seen c.loop-read.writer })) c.from_residual.ensures.1 (reader_failed _ _ _ _ _ _ c.loop-read.invariant c.in_err-byte.ensures refl)

pub returns-in_err-push : goal.returns-in_err-push
returns-in_err-push g c =
    let byte : g.I.Source.seen c.loop-read.reader ≡ ahead c.in-Some.byte (g.I.Source.seen c.get.new.self) = at_some c.in_ok-byte.field-0 _ _ c.in-Some.byte c.in-Some.is c.in_ok-byte.ensures in
    refused_exit c.from_residual-in_err-push.result Memory _ (λ e. IsRefused (offered_by c.args.self.now) (record { input = g.I.Source.seen c.args.reader.now; output = g.O.Out.seen c.args.writer.now }) e (record { input = g.I.Source.seen c.get.new.self; output = g.O.Out.seen c.loop-read.writer })) c.from_residual-in_err-push.ensures.1 (byte_lost _ _ _ c.in-Some.byte _ _ _ c.loop-read.invariant byte refl)

pub returns-in_err-answer : goal.returns-in_err-answer
returns-in_err-answer g c =
    let byte : g.I.Source.seen c.loop-read.reader ≡ ahead c.in-Some.byte (g.I.Source.seen c.get.new.self) = at_some c.in_ok-byte.field-0 _ _ c.in-Some.byte c.in-Some.is c.in_ok-byte.ensures in
    let ten = subst (λ (b : ℕ). g.I.Source.seen c.loop-read.reader ≡ ahead b (g.I.Source.seen c.get.new.self)) c.if-byte-eq10.true byte in
    let whole : c.as_slice-then-byte-eq10.result.now ≡ c.loop-read.line.items ++ 10 ∷ [] = c.as_slice-then-byte-eq10.ensures.value ∙ c.in_ok-push.ensures.items ∙ ap (λ (b : ℕ). c.loop-read.line.items ++ b ∷ []) c.if-byte-eq10.true in
    refused_exit c.from_residual-in_err-answer.result c.in_err-answer.field-0.0 _ (λ e. IsRefused (offered_by c.args.self.now) (record { input = g.I.Source.seen c.args.reader.now; output = g.O.Out.seen c.args.writer.now }) e (record { input = g.I.Source.seen c.get.new.self; output = g.O.Out.seen c.reply.new.writer })) c.from_residual-in_err-answer.ensures.1
    (reply_failed _ _ _ _ _ _ _ c.loop-read.invariant ten whole c.in_err-answer.field-0.0 c.in_err-answer.ensures)

pub returns-in-Some-2 : goal.returns-in-Some-2
returns-in-Some-2 g c =
    let byte : g.I.Source.seen c.loop-read.reader ≡ ahead c.in-Some.byte (g.I.Source.seen c.get.new.self) = at_some c.in_ok-byte.field-0 _ _ c.in-Some.byte c.in-Some.is c.in_ok-byte.ensures in
    let ten = subst (λ (b : ℕ). g.I.Source.seen c.loop-read.reader ≡ ahead b (g.I.Source.seen c.get.new.self)) c.if-byte-eq10.true byte in
    let whole : c.as_slice-then-byte-eq10.result.now ≡ c.loop-read.line.items ++ 10 ∷ [] = c.as_slice-then-byte-eq10.ensures.value ∙ c.in_ok-push.ensures.items ∙ ap (λ (b : ℕ). c.loop-read.line.items ++ b ∷ []) c.if-byte-eq10.true in
    let reply = at_some c.in_ok-answer.field-0 _ _ c.in-Some-2.answer c.in-Some-2.is c.in_ok-answer.ensures in
    inl (line_decided _ _ _ _ _ _ _ c.loop-read.invariant ten whole _ reply.0 reply.1)

pub loop-read-preserved : goal.loop-read-preserved
loop-read-preserved g c =
    let byte : g.I.Source.seen c.loop-read.reader ≡ ahead c.in-Some.byte (g.I.Source.seen c.get.new.self) = at_some c.in_ok-byte.field-0 _ _ c.in-Some.byte c.in-Some.is c.in_ok-byte.ensures in
    elim c.if-byte-eq10.branch [
      | then-byte-eq10+in_ok-answer+in_default-2 w ↦
          (let ten = subst (λ (b : ℕ). g.I.Source.seen c.loop-read.reader ≡ ahead b (g.I.Source.seen c.get.new.self)) w.if-byte-eq10.true byte in
          let whole : w.as_slice-then-byte-eq10.result.now ≡ c.loop-read.line.items ++ 10 ∷ [] = w.as_slice-then-byte-eq10.ensures.value ∙ c.in_ok-push.ensures.items ∙ ap (λ (b : ℕ). c.loop-read.line.items ++ b ∷ []) w.if-byte-eq10.true in
          let reply = at_none w.in_ok-answer.field-0 _ _ w.in_default-2.is w.in_ok-answer.ensures in
          goes_on_after _ _ w.as_slice-then-byte-eq10.result.now _ _ _ _ _ c.loop-read.invariant ten whole reply.0 (ap (λ (o : g.row.O.Denot). g.O.Out.seen o) w.writer-is ∙ reply.1) (ap (λ (v : Vec ℕ Global). v.items) w.line-is ∙ w.clear.ensures.items))
      | else-byte-eq10 w ↦
          goes_on _ _ _ _ c.in-Some.byte _ _ _ c.loop-read.invariant byte (ap (λ (o : g.row.O.Denot). g.O.Out.seen o) w.writer-is) w.if-byte-eq10.false (ap (λ (v : Vec ℕ Global). v.items) w.line-is ∙ c.in_ok-push.ensures.items)
    ]

pub returns : goal.returns
returns g c =
    let gives = subst (λ (l : List ℕ). EndGives (offered_by c.args.self.now) l (g.O.Out.seen c.loop-read.writer) c.end-2.result (g.O.Out.seen c.end-2.new.writer)) c.as_slice-2.ensures.value c.end-2.ensures in
    let all : c.loop-read._read ≡ 18446744073709551615 = omega arith in
    ends _ _ _ _ _ _ c.loop-read.invariant refl (inr (c.loop-read.invariant.counted ∙ all)) c.end-2.result gives
