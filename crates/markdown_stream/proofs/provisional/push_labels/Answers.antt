use Rattle.std.proofs.Common.{◌≡◌, ℕ, ◌-◌, List, ◌∷◌, length, get_or, take, drop, ap, arith}
use Rattle.markdown_lines.specs.Links.{Defined}
use Rattle.markdown_lines.specs.LinksOf.{defined_of}
use Rattle.markdown_stream.specs.Openings.{openings_of}
use Rattle.markdown_stream.specs.Provisional.{labels_named, with_labels}
use Rattle.markdown_stream.proofs.ProvisionalLemmas.{all_read, escaped_on, read_on, split_first}
use Rattle.markdown_stream.proofs.provisional.push_labels.Goals as goal
use Rattle.markdown_stream.proofs.provisional.push_labels.Goals.{then-escaped, else-escaped+in_ok-read_byte}

pub loop-rest-preserved : goal.loop-rest-preserved
loop-rest-preserved c =
    let at = c.loop-rest in
    let rest : List ℕ = at.rest.now in
    let b : ℕ = get_or rest 0 0 in
    let next : List ℕ = take (length rest - 1) (drop 1 rest) in
    let split : rest ≡ b ∷ next = split_first rest (omega (arith, c.in-len1-up.len_at_least)) in
    let all : Defined = with_labels (defined_of c.args.definitions.now) (labels_named c.args.text.now) in
    elim c.if-escaped.branch [
      | then-escaped w ↦
          escaped_on (defined_of c.if-escaped.definitions) (defined_of at.definitions) all (openings_of c.if-escaped.opens.items) (openings_of at.opens.items) c.if-escaped.escaped at.escaped at.before b rest next
          (ap defined_of w.definitions-is) (ap (λ opens. openings_of opens.items) w.opens-is) w.escaped-is w.if-escaped.true split at.invariant
      | else-escaped+in_ok-read_byte w ↦
          read_on (defined_of c.if-escaped.definitions) (defined_of w.read_byte.new.definitions) (defined_of at.definitions) all (openings_of c.if-escaped.opens.items) (openings_of w.read_byte.new.opens.items) (openings_of at.opens.items)
          c.if-escaped.escaped at.escaped at.before b rest next
          (ap defined_of w.definitions-is) (ap (λ opens. openings_of opens.items) w.opens-is) w.escaped-is w.if-escaped.false split w.in_ok-read_byte.ensures at.invariant
    ]

pub returns : goal.returns
returns c =
    let at = c.loop-rest in
    all_read (defined_of at.definitions) (with_labels (defined_of c.args.definitions.now) (labels_named c.args.text.now)) (openings_of at.opens.items) at.before at.escaped at.rest.now c.in_default.len_below at.invariant
