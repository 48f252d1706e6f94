use Rattle.std.proofs.Common.{Some, None, sym, ap, ◌∙◌, lit<}
use Rattle.std.proofs.lemmas.Str.Pattern.{split_parts}
use Rattle.mad_links.specs.Addresses.{has_scheme_in}
use Rattle.mad_links.proofs.WritingLemmas.{none_cut, some_cut}
use Rattle.mad_links.proofs.addresses.has_link_scheme.Goals as goal

pub returns-in-None : goal.returns-in-None
returns-in-None c = sym (ap has_scheme_in (none_cut 58 c.args.address.now (split_parts 58 c.args.address.now None c.in-None.ensures.cases (lit< tt))))

pub returns-in-Some : goal.returns-in-Some
returns-in-Some c =
    let parts = split_parts 58 c.args.address.now (Some (c.in-Some.scheme, c.in-Some.field-0-1)) c.in-Some.ensures.cases (lit< tt) in
    c.is_link_scheme.ensures ∙ sym (ap has_scheme_in (some_cut 58 c.args.address.now c.in-Some.scheme.now c.in-Some.field-0-1.now parts.0 parts.1))
