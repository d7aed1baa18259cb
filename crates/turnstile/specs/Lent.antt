-- A turn whose value was written.
use Rattle.turnstile.specs.declared.turns.Held.{Held}

abbrev pub with_value : {V B I : Type 0} → Held V B I → V → Held V B I
with_value h y = record h { value = y }
