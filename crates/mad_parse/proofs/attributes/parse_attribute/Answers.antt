use Rattle.std.proofs.Common.{◌∙◌, ap}
use Rattle.std.specs.Option.{ok_or}
use Rattle.mad_parse.specs.declared.errors.ParseAttributeError.TheVariants.{Unrecognized}
use Rattle.mad_parse.proofs.attributes.parse_attribute.Goals as goal

pub returns : goal.returns
returns c = c.ok_or.ensures.value ∙ ap (λ found. ok_or found Unrecognized) c.named.ensures
