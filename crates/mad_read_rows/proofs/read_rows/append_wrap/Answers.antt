use Rattle.std.proofs.Common.{ℕ, List, ◌++◌, string_bytes, ap, ◌∙◌}
use Rattle.mad_style.specs.declared.kinds.CompositeKind.{CompositeKind}
use Rattle.mad_rows.specs.declared.composites.CompositeFront.{CompositeFront}
use Rattle.mad_read_rows.specs.ReadRows.{front_bytes}
use Rattle.mad_read_rows.proofs.ReadLemmas.{wrap_written}
use Rattle.mad_read_rows.proofs.read_rows.append_wrap.Goals as goal

pub returns : goal.returns
returns c =
    let front : CompositeFront = c.args.front in
    let written = c.in_ok-append_tokens.ensures in
    wrap_written c.args.front c.args.room c.args.compounds.now c.token_limit-max.result c.deref.result.now c.new-fit.result written.0 (string_bytes c.args.rows.now) (string_bytes c.append_front-2.new.rows) (string_bytes c.append_tokens.new.rows) (string_bytes c.push_str.new.self)
    c.token_limit-max.ensures c.new-fit.ensures
    (c.deref.ensures ∙ c.in_ok-append_front.ensures ∙ ap (λ (b : List ℕ). b ++ front_bytes (record front { kind = c.follow_up.result })) c.new-later.ensures.bytes ∙ ap (λ (k : CompositeKind). front_bytes (record front { kind = k })) c.follow_up.ensures)
    c.in_ok-append_front-2.ensures written.1 c.in_ok-push_str.ensures.bytes
