-- A terminal with links is one that passes over them, with something beside it.
use Rattle.std.proofs.Common.{◌≡◌, ℕ, Bool, true, false, cond, List, [], ◌∷◌, ◌++◌, Option, Some, None, refl, ap, ◌∙◌}
use Rattle.std.specs.Prelude.{option_and_then, option_map}
use Rattle.std.specs.Str.{chars, is_utf8}
use Rattle.mad_screen.specs.Grid.{Grid}
use Rattle.mad_screen.specs.Terminal.{resting, Reading}
use Rattle.mad_links.specs.SkippingTerminal.{Reader, Skipping, passing, plain_reader, read_all, skip, skip_all, skipped, after_skipping}
use Rattle.mad_links.specs.LinkTerminal.{LinkReading, LinkScreen, link_feed, link_feed_all, link_resting, link_settled, next_links, next_link, after_linked}

-- ---- texts one after another

skip_each : {R : Type 0} (t : Reader R) (a b : List ℕ) → ((s : Skipping R) → skip_all t (a ++ b) s ≡ option_and_then (skip_all t b) (skip_all t a s)) → (o : Option (Skipping R)) → option_and_then (skip_all t (a ++ b)) o ≡ option_and_then (skip_all t b) (option_and_then (skip_all t a) o)
skip_each t a b h None = refl
skip_each t a b h (Some s) = h s

-- characters behind others, to a terminal that passes over links
pub skip_all-append : {R : Type 0} (t : Reader R) (a b : List ℕ) (s : Skipping R) → skip_all t (a ++ b) s ≡ option_and_then (skip_all t b) (skip_all t a s)
skip_all-append t [] b s = refl
skip_all-append t (c ∷ a) b s = skip_each t a b (λ u. skip_all-append t a b u) (skip t s c)

read_each : {R : Type 0} (t : Reader R) (a b : List ℕ) → ((r : R) → read_all t (a ++ b) r ≡ option_and_then (read_all t b) (read_all t a r)) → (o : Option R) → option_and_then (read_all t (a ++ b)) o ≡ option_and_then (read_all t b) (option_and_then (read_all t a) o)
read_each t a b h None = refl
read_each t a b h (Some r) = h r

-- the same to the terminal itself
pub read_all-append : {R : Type 0} (t : Reader R) (a b : List ℕ) (r : R) → read_all t (a ++ b) r ≡ option_and_then (read_all t b) (read_all t a r)
read_all-append t [] b r = refl
read_all-append t (c ∷ a) b r = read_each t a b (λ u. read_all-append t a b u) (t.feed r c)

link_each : (a b : List ℕ) → ((s : LinkReading) → link_feed_all (a ++ b) s ≡ option_and_then (link_feed_all b) (link_feed_all a s)) → (o : Option LinkReading) → option_and_then (link_feed_all (a ++ b)) o ≡ option_and_then (link_feed_all b) (option_and_then (link_feed_all a) o)
link_each a b h None = refl
link_each a b h (Some s) = h s

-- the same to a terminal with links
pub link_feed_all-append : (a b : List ℕ) (s : LinkReading) → link_feed_all (a ++ b) s ≡ option_and_then (link_feed_all b) (link_feed_all a s)
link_feed_all-append [] b s = refl
link_feed_all-append (c ∷ a) b s = link_each a b (λ t. link_feed_all-append a b t) (link_feed s c)

-- ---- beside

-- a reading with the links of another
abbrev with_links : LinkReading → ℕ → Skipping Reading → LinkReading
with_links r c s = record {
  skipping = s;
  links = next_links r.skipping.mode r.skipping.plain c r.current r.links;
  current = next_link r.skipping.mode r.current;
}

beside_step : (cs : List ℕ) (r : LinkReading) (c : ℕ) (o : Option (Skipping Reading)) → ((t : LinkReading) → option_map (λ (u : LinkReading). u.skipping) (link_feed_all cs t) ≡ skip_all plain_reader cs t.skipping)
    → option_map (λ (u : LinkReading). u.skipping) (option_and_then (link_feed_all cs) (option_map (with_links r c) o)) ≡ option_and_then (skip_all plain_reader cs) o
beside_step cs r c None ih = refl
beside_step cs r c (Some s) ih = ih (with_links r c s)

-- without its links it is one that passes over them
pub beside_all : (cs : List ℕ) (r : LinkReading) → option_map (λ (u : LinkReading). u.skipping) (link_feed_all cs r) ≡ skip_all plain_reader cs r.skipping
beside_all [] r = refl
beside_all (c ∷ cs) r = beside_step cs r c (skip plain_reader r.skipping c) (λ t. beside_all cs t)

settled_beside : (r : LinkReading) (o : Option Grid) → option_map (λ (t : LinkScreen). t.grid) (option_map (λ (g : Grid). record { grid = g; links = r.links; current = r.current }) o) ≡ o
settled_beside r None = refl
settled_beside r (Some g) = refl

read_beside : (o : Option LinkReading) → option_map (λ (t : LinkScreen). t.grid) (option_and_then link_settled o) ≡ option_and_then skipped (option_map (λ (u : LinkReading). u.skipping) o)
read_beside None = refl
read_beside (Some r) = settled_beside r (skipped r.skipping)

tested_beside : (b : Bool) (o : Option LinkReading) (p : Option (Skipping Reading)) → option_map (λ (u : LinkReading). u.skipping) o ≡ p
    → option_map (λ (t : LinkScreen). t.grid) (cond b (option_and_then link_settled o) None) ≡ cond b (option_and_then skipped p) None
tested_beside false o p e = refl
tested_beside true o p e = read_beside o ∙ ap (option_and_then skipped) e

-- THE LAW: it shows what such a one does
pub links_beside : (s : LinkScreen) (bytes : List ℕ) → option_map (λ (t : LinkScreen). t.grid) (after_linked s bytes) ≡ after_skipping s.grid bytes
unfolding after_linked after_skipping
links_beside s bytes = tested_beside (is_utf8 bytes) (link_feed_all (chars bytes) (link_resting s)) (skip_all plain_reader (chars bytes) (passing (resting s.grid))) (beside_all (chars bytes) (link_resting s))
