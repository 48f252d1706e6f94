use Rattle.std.proofs.Common.{ap, length, is_ok}
use Rattle.std.specs.Prelude.{string_bytes}
use Rattle.markdown_lines.proofs.RunLemmas.{runs_pushed, bordered_by}
use Rattle.markdown_lines.proofs.runs.Runs.push.Goals as goal

pub invariant_of-self-2 : goal.invariant_of-self-2
invariant_of-self-2 c = record {
  bordered = bordered_by (is_ok c.push.result) (string_bytes c.args.self.now.text) c.args.text.now (string_bytes c.push_str.new.self) c.args.self.now.places.items c.push.new.self.items c.args.flags (length c.as_str-start.result.now) (length c.as_str-end.result.now)
      c.utf8.text c.args.self.now.bordered c.in_ok-push_str.ensures.bytes c.push.ensures.items (ap length c.as_str-start.ensures.value) (ap length c.as_str-end.ensures.value);
}

pub returns-clause-value : goal.returns-clause-value
returns-clause-value c = runs_pushed (string_bytes c.args.self.now.text) c.args.text.now (string_bytes c.push_str.new.self) c.args.self.now.places.items c.push.new.self.items c.args.flags (length c.as_str-start.result.now) (length c.as_str-end.result.now)
    c.args.self.now.bordered c.in_ok-push_str.ensures.bytes c.in_ok-push.ensures.items (ap length c.as_str-start.ensures.value) (ap length c.as_str-end.ensures.value)
