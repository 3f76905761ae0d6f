-- What was told, by whether all of it was.
use Rattle.std.proofs.Common.{◌≡◌, ℕ, Bool, true, false, List, subst}
use Rattle.tt_edge.specs.Count.{Rose}
use Rattle.tt_serving.specs.Told.{SinkNow, IsTold}

pub told-cut : (w : Bool) (text : List ℕ) (a b : SinkNow) → IsTold w text a b → w ≡ false → Rose a.faults b.faults
told-cut w text a b told e = let cut : IsTold false text a b = subst (λ (v : Bool). IsTold v text a b) e told in cut.1

pub told-kept : (w : Bool) (text : List ℕ) (a b : SinkNow) → IsTold w text a b → w ≡ true → b.faults ≡ a.faults
told-kept w text a b told e = let all : IsTold true text a b = subst (λ (v : Bool). IsTold v text a b) e told in all.1
