-- The examples, by computation.
use Rattle.std.proofs.Common.{refl}
use Rattle.mad_plain.specs.Examples.{Examples}
use Rattle.mad_plain.specs.Lines.{line_from}

-- the definition gives what the model says of the examples
pub examples : Examples
unfolding line_from
examples = record { e0 = refl; e1 = refl; e2 = refl; e3 = refl; e4 = refl; e5 = refl; e6 = refl; e7 = refl; e8 = refl; e9 = refl; e10 = refl; e11 = refl; e12 = refl; e13 = refl; e14 = refl; e15 = refl; e16 = refl; e17 = refl; e18 = refl; e19 = refl; e20 = refl; e21 = refl; e22 = refl; e23 = refl; e24 = refl; e25 = refl; e26 = refl; e27 = refl; e28 = refl; e29 = refl; e30 = refl; e31 = refl; e32 = refl; e33 = refl; e34 = refl; e35 = refl; e36 = refl; e37 = refl; e38 = refl; e39 = refl; e40 = refl; e41 = refl; e42 = refl; e43 = refl; e44 = refl; e45 = refl; e46 = refl; e47 = refl; e48 = refl; e49 = refl; e50 = refl; e51 = refl; e52 = refl; e53 = refl; e54 = refl; e55 = refl; e56 = refl; e57 = refl; e58 = refl; e59 = refl; e60 = refl; e61 = refl; e62 = refl }
