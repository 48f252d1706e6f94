use Rattle.std.proofs.Common.{◌≡◌, ◌-◌, ◌∷◌, ◌++◌, List, length, map, take, drop, sym, ap, ◌∙◌, arith}
use Rattle.std.specs.List.{flat_map}
use Rattle.markdown_leaves.specs.Parts.{PartContent, part_of}
use Rattle.markdown_leaves.specs.Told.{parts_of}
use Rattle.markdown_leaves.specs.declared.parts.Part.{Part}
use Rattle.markdown_lines.specs.Links.{Defined}
use Rattle.markdown_lines.specs.LinksOf.{defined_of}
use Rattle.markdown_definitions.specs.Definitions.{definitions_of}
use Rattle.markdown_reader.specs.Anchors.{AnchorSaid, anchor_said, parts_anchors}
use Rattle.markdown_reader.specs.Mapping.{Mapping, leaves_in}
use Rattle.markdown_reader.specs.MappingOf.{mapping_of}
use Rattle.markdown_reader.proofs.AnchorLemmas.{no_part_named, part_named}
use Rattle.markdown_reader.proofs.PartsLemmas.{first_of}
use Rattle.markdown_reader.proofs.anchors.unmarked_anchors.Goals as goal

pub loop-rest-preserved : goal.loop-rest-preserved
loop-rest-preserved c =
    let rest : List Part = c.loop-rest.rest.now in
    let others : List PartContent = map part_of (take (length rest - 1) (drop 1 rest)) in
    let defined : Defined = defined_of c.in_ok-definitions.definitions in
    let same : defined ≡ definitions_of (parts_of c.args.source.now) = c.in_ok-definitions.ensures ∙ ap definitions_of (ap (map part_of) c.deref.ensures.value ∙ c.in_ok-parts.ensures ∙ ap parts_of c.as_bytes.ensures.value) in
    let m : Mapping = mapping_of c.loop-rest.mapper in
    let after : Mapping = mapping_of c.push_part.new.mapper in
    let done : List AnchorSaid = map anchor_said c.loop-rest.anchors.items in
    let now : List AnchorSaid = map anchor_said c.push_part.new.anchors.items in
    let part : Part = c.part-item.result in
    let first : map part_of rest ≡ part_of part ∷ others = first_of part_of rest part (omega (arith, c.in-len1-up.len_at_least)) ∙ ap (λ (p : Part). part_of p ∷ others) (sym c.part-item.is) in
    ap (λ (d : Defined). now ++ parts_anchors d (flat_map leaves_in others) after) (sym same) ∙ part_named defined (part_of part) others m after done now c.in_ok-push_part.ensures.mapping c.in_ok-push_part.ensures.anchors
    ∙ ap (λ (l : List PartContent). done ++ parts_anchors defined (flat_map leaves_in l) m) (sym first)
    ∙ ap (λ (d : Defined). done ++ parts_anchors d (flat_map leaves_in (map part_of rest)) m) same ∙ c.loop-rest.invariant

pub returns : goal.returns
returns c =
    no_part_named (definitions_of (parts_of c.args.source.now)) c.loop-rest.rest.now (mapping_of c.loop-rest.mapper) (map anchor_said c.loop-rest.anchors.items) (omega (arith, c.in_default.len_below)) ∙ c.loop-rest.invariant
