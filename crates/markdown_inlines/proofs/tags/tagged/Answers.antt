use Rattle.std.proofs.Common.{ℕ, ◌+◌, ◌<◌, ◌++◌, List, length, ap, ◌∙◌, arith}
use Rattle.markdown_pieces.specs.declared.pieces.Piece.{Piece}
use Rattle.markdown_inlines.specs.declared.links.Over.{Over}
use Rattle.markdown_inlines.specs.declared.tags.Tags.{Tags}
use Rattle.markdown_inlines.specs.Tags.{tagged_from}
use Rattle.markdown_inlines.proofs.LinkLemmas.{no_piece}
use Rattle.markdown_inlines.proofs.ShownLemmas.{no_over}
use Rattle.markdown_inlines.proofs.TagLemmas.{tagged_step, tagged_end}
use Rattle.markdown_inlines.proofs.tags.tagged.Goals as goal

pub loop-index-init : goal.loop-index-init
loop-index-init c =
    let ps : List Piece = c.args.pieces.now in
    let os : List Over = c.args.overs.now in
    record {
      same = ap (λ (l : List Over). l ++ tagged_from 0 0 c.no_tags-tags.result ps os) c.in_ok-made.ensures.items ∙ ap (λ (t : Tags). tagged_from 0 0 t ps os) c.no_tags-tags.ensures;
      few = omega arith;
    }

pub loop-index-preserved : goal.loop-index-preserved
loop-index-preserved c =
    let ps : List Piece = c.args.pieces.now in
    let os : List Over = c.args.overs.now in
    let i : ℕ = c.loop-index.index in
    let number : ℕ = c.loop-index.number in
    let within : i < length ps = omega arith in
    record {
      same = tagged_step i number (number + c.links_in-number.result) c.loop-index.tags c.after_piece-tags.result ps os no_piece no_over c.tagged_over.result c.loop-index.made.items c.push.new.self.items _ within
          (omega (arith, c.requires)) c.tagged_over.ensures (ap (λ k. number + k) c.links_in-number.ensures.value) c.after_piece-tags.ensures c.in_ok-push.ensures.items c.loop-index.invariant.same;
      few = omega (arith, c.loop-index.invariant.few, c.links_in-number.ensures.few);
    }

pub returns : goal.returns
returns c = tagged_end c.loop-index.index c.loop-index.number c.loop-index.tags c.args.pieces.now _ c.loop-index.made.items _ (omega arith) c.loop-index.invariant.same
