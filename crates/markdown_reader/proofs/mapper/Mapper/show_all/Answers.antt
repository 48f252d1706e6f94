use Rattle.std.proofs.Common.{◌≡◌, ◌-◌, ◌∷◌, ◌++◌, List, length, map, take, drop, sym, ap, ◌∙◌, arith}
use Rattle.std.specs.List.{flat_map}
use Rattle.markdown_leaves.specs.Parts.{PartContent, part_of}
use Rattle.markdown_leaves.specs.declared.parts.Part.{Part}
use Rattle.markdown_lines.specs.Links.{Defined}
use Rattle.markdown_lines.specs.LinksOf.{defined_of}
use Rattle.markdown_reader.specs.Mapping.{Mapping, leaves_in, shown_parts}
use Rattle.markdown_reader.specs.MappingOf.{mapping_of}
use Rattle.markdown_reader.specs.NumbersIn.{numbers_in}
use Rattle.markdown_reader.specs.SectionNumbers.{parts_numbers}
use Rattle.markdown_reader.proofs.PartsLemmas.{first_of, part_numbered, part_shown}
use Rattle.markdown_reader.proofs.mapper.Mapper.show_all.Goals as goal

pub loop-rest-preserved : goal.loop-rest-preserved
loop-rest-preserved c =
    let rest : List Part = c.loop-rest.rest.now in
    let others : List PartContent = map part_of (take (length rest - 1) (drop 1 rest)) in
    let defined : Defined = defined_of c.args.definitions.now in
    let m : Mapping = mapping_of c.loop-rest.self in
    let after : Mapping = mapping_of c.show.new.self in
    let part : Part = c.part-item.result in
    let first : map part_of rest ≡ part_of part ∷ others = first_of part_of rest part (omega (arith, c.in-len1-up.len_at_least)) ∙ ap (λ (p : Part). part_of p ∷ others) (sym c.part-item.is) in
    record {
      mapping = part_shown defined (part_of part) others m after c.in_ok-show.ensures.mapping ∙ ap (λ (l : List PartContent). shown_parts defined (flat_map leaves_in l) m) (sym first) ∙ c.loop-rest.invariant.mapping;
      numbers = part_numbered defined (part_of part) others m after (numbers_in c.loop-rest.self) (numbers_in c.show.new.self) c.in_ok-show.ensures.mapping c.in_ok-show.ensures.numbers
          ∙ ap (λ (l : List PartContent). numbers_in c.loop-rest.self ++ parts_numbers defined (flat_map leaves_in l) m) (sym first) ∙ c.loop-rest.invariant.numbers;
    }
