use Rattle.std.proofs.Common.{◌≡◌, ◌++◌, take}
use Rattle.pals_base.specs.Adaptors.{spread}
use Rattle.input_adaptors.proofs.to_higher_rate.push_spread.Given as goal

-- the places so far are the first of the value's places
abbrev pub invariant-loop-place : goal.invariant-loop-place
invariant-loop-place l = l.tuple ≡ l.fn.tuple ++ take l.place (spread l.adaptor l.m l.value)
