-- How runs end: where a link leads that is to be followed.
use Rattle.std.specs.Prelude.{ℕ, List, Option, Some, None, ⊤}
use Rattle.mad_outline.specs.Sources.{TextSaid}
use Rattle.mad_pager.specs.Following.{address_of}
use Rattle.mad_pager.specs.declared.session.End.{End}
use Rattle.mad_pager.specs.declared.session.End.TheVariants.{Follow}

-- the address of the link of a text that is to be followed at this end, if one is
abbrev pub led_to : TextSaid → End → Option (List ℕ)
led_to text (Follow row index) = Some (address_of text.links index)
led_to text end = None

-- one is to be followed
abbrev pub IsFollowing : End → Type 0
IsFollowing (Follow row index) = ⊤
IsFollowing end = ⊥
