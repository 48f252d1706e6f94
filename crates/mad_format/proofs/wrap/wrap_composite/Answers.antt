use Rattle.std.proofs.Common.{subst}
use Rattle.mad_wrap.specs.LeastWords.{IsWrapOf}
use Rattle.mad_wrap.specs.WrapLines.{compounds_of}
use Rattle.mad_wrap.specs.declared.room.Room.{Room}
use Rattle.mad_format.specs.CompositeWraps.{AreComposites}
use Rattle.mad_format.specs.Indents.{follow_up, room_of}
use Rattle.mad_format.proofs.WrapLemmas.{composite_wrap, ok_then}
use Rattle.mad_format.proofs.wrap.wrap_composite.Goals as goal

pub returns : goal.returns
returns g c =
    let source = c.args.composite.now in
    let made = c.in_ok-lines in
    let wrap : IsWrapOf (room_of (g.S.LineSkin.rules c.args.skin.now) source.kind c.args.width) source.compounds.items (compounds_of made.lines.items) =
    subst (λ (r : Room). IsWrapOf r source.compounds.items (compounds_of made.lines.items)) c.room_of-room.ensures (subst (λ ps. IsWrapOf c.room_of-room.result ps (compounds_of made.lines.items)) c.deref.ensures.value made.ensures.wrapped) in
    ok_then _ _ (λ cs h. composite_wrap (g.S.LineSkin.rules c.args.skin.now) c.args.width source made.lines.items cs.items wrap made.ensures.counted
    (subst (λ (r : Room). AreComposites source.kind (follow_up source.kind) r.first r.other source.spacing made.lines.items cs.items) c.room_of-room.ensures h)) c.composites.result c.composites.ensures
