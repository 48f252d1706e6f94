use Rattle.std.proofs.Common.{refl}
use Rattle.std.proofs.lemmas.Result.{IfOk-weaker}
use Rattle.mad_patterns.specs.Readings.{reading_of}
use Rattle.mad_patterns.proofs.ReadingLemmas.{no_text, refused_so, some_text}
use Rattle.mad_patterns.proofs.readings.Sought.read.Goals as goal

pub returns-then-is_empty : goal.returns-then-is_empty
returns-then-is_empty c = no_text c.args.text.now _ c.is_empty.result c.is_empty.ensures c.if-is_empty.true refl

pub returns-in-Ok : goal.returns-in-Ok
returns-in-Ok c =
    some_text c.args.text.now _ c.is_empty.result c.is_empty.ensures c.if-is_empty.false (record {
      regex = c.in-Ok.regex;
      pattern = refl;
      source = rw c.in-Ok.is at c.built.ensures.source;
      under = rw c.in-Ok.is at c.built.ensures.under;
      read = rw c.in-Ok.is at c.built.ensures.read;
    })

pub returns-in-Err : goal.returns-in-Err
returns-in-Err c =
    let refusal = rw c.in-Err.is at c.built.ensures.refused in
    let right = rw c.in-Err.is at c.built.ensures.right in
    IfOk-weaker c.refused.result _ _
    (λ sought said. some_text c.args.text.now (reading_of sought) c.is_empty.result c.is_empty.ensures c.if-is_empty.false (refused_so c.args.text.now c.in-Err.error sought refusal right said)) c.refused.ensures
