-- What a method's decision says when it is right (document 01, codes 0 and 12): no order is valid and k-atomic, or this one is.
-- Assumes nothing.
use Rattle.std.specs.Prelude.{ℕ, List}
use Rattle.history.specs.declared.Op.{Op}
use Rattle.methods.specs.Zones.{Decision, none, order}
use Rattle.witnesses.specs.Orders.{Orders}

pub data Decides (k : ℕ) (H : List Op) : Decision → Type 0 where
  no_order : ((o : List Op) → Orders k H o → ⊥) → Decides k H none
  an_order : {o : List Op} → Orders k H o → Decides k H (order o)
