-- One element of a list changed; what holds of each.
use Rattle.std.specs.Prelude.{List, [], ◌∷◌, ℕ, get_or, set}

-- element k changed by f; nothing where there is none
abbrev pub adjust : {A : Type 0} → A → ℕ → (A → A) → List A → List A
adjust d k f l = set l k (f (get_or l k d))

abbrev pub Every : {A : Type 0} → (A → Type 0) → List A → Type 0
Every P [] = Unit {0}
Every P (x ∷ l) = P x × Every P l
