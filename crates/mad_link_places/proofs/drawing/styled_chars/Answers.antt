use Rattle.std.proofs.Common.{◌≡◌, ℕ, List, ap, map, sym, ◌∙◌}
use Rattle.std.specs.Str.{chars}
use Rattle.std.proofs.lemmas.Iterator.{YieldsList-from_chars}
use Rattle.std.proofs.lemmas.Iterator.Consumers.{YieldsList-end}
use Rattle.std.proofs.lemmas.List.{map-id}
use Rattle.mad_style.specs.StyledChars.{styled_char}
use Rattle.mad_link_places.proofs.drawing.styled_chars.Goals as goal

pub returns : goal.returns
returns c =
    let all : c.loop-c.yielded ≡ chars c.args.text.now =
    sym (map-id c.loop-c.yielded) ∙ (YieldsList-end (YieldsList-from_chars c.args.text.now c.utf8.text cc) c.loop-c.yielded _ c.loop-c.yielded_by _ _ c.in-None.is c.next.ensures.steps).0 in
    c.loop-c.invariant ∙ ap (λ (cs : List ℕ). map (styled_char c.args.style) cs) all
