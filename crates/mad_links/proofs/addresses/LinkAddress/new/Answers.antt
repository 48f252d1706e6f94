use Rattle.std.proofs.Common.{◌≡◌, length, Some, sym, ap, ◌∙◌, arith, string_bytes}
use Rattle.mad_links.specs.Addresses.{written_address}
use Rattle.mad_links.proofs.AddressLemmas.{addresses_are_written}
use Rattle.mad_links.proofs.WritingLemmas.{encoded, too_long, fits}
use Rattle.mad_links.proofs.addresses.LinkAddress.new.Goals as goal

pub returns-then-len-gt-LONGEST : goal.returns-then-len-gt-LONGEST
returns-then-len-gt-LONGEST c =
    let text : string_bytes c.append_to.new.out ≡ written_address c.args.address.now = encoded _ _ _ _ _ c.in_ok-append_to.ensures.ok c.new-text.ensures.bytes c.percent_encode.ensures.text c.as_bytes.ensures.value in
    sym (too_long c.args.address.now (omega (arith, ap length text)))

pub invariant_of-result : goal.invariant_of-result
invariant_of-result c =
    let text : string_bytes c.append_to.new.out ≡ written_address c.args.address.now = encoded _ _ _ _ _ c.in_ok-append_to.ensures.ok c.new-text.ensures.bytes c.percent_encode.ensures.text c.as_bytes.ensures.value in
    addresses_are_written.written c.args.address.now (string_bytes c.append_to.new.out)
    (fits c.args.address.now (sym c.has_link_scheme.ensures ∙ c.if-not-has_link_scheme.false) (omega (arith, ap length text)) ∙ ap Some (sym text))

pub returns : goal.returns
returns c =
    let text : string_bytes c.append_to.new.out ≡ written_address c.args.address.now = encoded _ _ _ _ _ c.in_ok-append_to.ensures.ok c.new-text.ensures.bytes c.percent_encode.ensures.text c.as_bytes.ensures.value in
    ap Some text ∙ sym (fits c.args.address.now (sym c.has_link_scheme.ensures ∙ c.if-not-has_link_scheme.false) (omega (arith, ap length text)))
