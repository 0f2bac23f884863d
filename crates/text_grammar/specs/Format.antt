-- Formats: which bytes may come next, and what a finished text is worth.
--
--   done r             == nothing may follow; the value is r
--   node ok next       == a byte b with ok b, then the format next b
--   TextOf f t r       == t is a text of the format f, and its value is r
--   Stands w i t       == the input w has the bytes t from place i on
--   run f w i          == f followed along w from place i: the value and the place behind it, or the place of the fault
--   Live f             == every way that f allows can be finished, and 256, which is no byte, is on none
--   bind f k           == a text of f, then one of the format that k gives for its value
--   lit b f            == the byte b, then f
--   alt b f g          == the byte b, then f; or else g
--   may_begin f b       == a text of f may begin with b
--   child f b          == what follows b in f
--   chars t            == the bytes t
--   follow r k         == k of what r found; the fault where it found none
--   IsNode f           == f wants a byte
--   Bytes t            == every number of t is a byte
use Rattle.std.specs.Prelude.{ℕ, suc, ◌<◌, Bool, true, false, ◌||◌, List, [], ◌∷◌, ◌≡◌, eqb}

pub data Format (R : Type 0) : Type 0 where
  done : R → Format R
  node : (ℕ → Bool) → (ℕ → Format R) → Format R

pub data Run (R : Type 0) : Type 0 where
  got : R → ℕ → Run R
  fault : ℕ → Run R

unfoldable pub TextOf : {R : Type 0} → Format R → List ℕ → R → Type 0
TextOf (done x) [] r = x ≡ r
TextOf (done x) (b ∷ t) r = ⊥
TextOf (node ok next) [] r = ⊥
TextOf (node ok next) (b ∷ t) r = (ok b ≡ true) × TextOf (next b) t r

unfoldable pub Stands : (ℕ → ℕ) → ℕ → List ℕ → Type 0
Stands w i [] = Unit {0}
Stands w i (b ∷ t) = (w i ≡ b) × Stands w (suc i) t

unfoldable pub run : {R : Type 0} → Format R → (ℕ → ℕ) → ℕ → Run R
run (done r) w i = got r i
run (node ok next) w i = elim (ok (w i)) [ true ↦ run (next (w i)) w (suc i) | false ↦ fault i ]

unfoldable pub Live : {R : Type 0} → Format R → Type 0
Live (done r) = Unit {0}
Live (node ok next) = ((b : ℕ) × (ok b ≡ true)) × ((b : ℕ) → ok b ≡ true → Live (next b)) × (ok 256 ≡ false)

unfoldable pub bind : {A B : Type 0} → Format A → (A → Format B) → Format B
bind (done a) k = k a
bind (node ok next) k = node ok (λ b. bind (next b) k)

unfoldable pub lit : {R : Type 0} → ℕ → Format R → Format R
lit b f = node (λ c. eqb c b) (λ c. f)

unfoldable pub may_begin : {R : Type 0} → Format R → ℕ → Bool
may_begin (done r) b = false
may_begin (node ok next) b = ok b

unfoldable pub child : {R : Type 0} → Format R → ℕ → Format R
child (done r) b = done r
child (node ok next) b = next b

unfoldable pub alt : {R : Type 0} → ℕ → Format R → Format R → Format R
alt b f g = node (λ c. eqb c b || may_begin g c) (λ c. elim (eqb c b) [ true ↦ f | false ↦ child g c ])

unfoldable pub chars : List ℕ → Format (Unit {0})
chars [] = done tt
chars (b ∷ t) = lit b (chars t)

unfoldable pub follow : {A B : Type 0} → Run A → (A → ℕ → Run B) → Run B
follow (got a j) k = k a j
follow (fault p) k = fault p

unfoldable pub IsNode : {R : Type 0} → Format R → Type 0
IsNode (done r) = ⊥
IsNode (node ok next) = Unit {0}

unfoldable pub Bytes : List ℕ → Type 0
Bytes [] = Unit {0}
Bytes (b ∷ t) = (b < 256) × Bytes t
