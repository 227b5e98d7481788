-- Facts on what is reached in none or more steps.
use Rattle.links.specs.Links.{Reaches, here, onto}

pub reaches_on : {X : Type 0} {Step : X → X → Type 0} {a b c : X} → Reaches Step a b → Reaches Step b c → Reaches Step a c
reaches_on p here = p
reaches_on p (onto q s) = onto (reaches_on p q) s

-- with a step in front
pub reaches_from : {X : Type 0} {Step : X → X → Type 0} {a b c : X} → Step a b → Reaches Step b c → Reaches Step a c
reaches_from s q = reaches_on (onto here s) q

pub reaches_by : {X : Type 0} {Step Other : X → X → Type 0} {a b : X} → ((x y : X) → Step x y → Other x y) → Reaches Step a b → Reaches Other a b
reaches_by f here = here
reaches_by f (onto {b} {c} q s) = onto (reaches_by f q) (f b c s)
