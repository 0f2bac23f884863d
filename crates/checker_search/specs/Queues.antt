-- A search's queue, finders and marks in lists of 4,096 entries.
--
--   at l k                           == entry k of l
--   Sized mark queue from            == the three lists have 4,096 entries
--   Queued N mark queue from n       == n places are in the queue, no more than are marked
--   FinderFits N f mark queue from n == that, and the finder f fits an entry
--   Grown ..                         == the queue has grown: what it had stays
--   Visited, Spread, Exhausted       == what one visit, the turns of one place, and the whole search do
--   Held mark queue n                == what is marked is in the queue
--   Unmarked mark                    == nothing is marked
--   Reach .. u ..                    == mark is what u reaches by one turn or more inside X, with its queue and finders
--   Finders k from                   == the finders of the first k + 1 come earlier
--   Chained queue from k out i       == out has, from i on, the way to queue place k
--   Copied src a e dst at out        == out is dst with the entries a to e - 1 of src from `at` on
--   FirstIn, FirstAt                 == the first queue place with an input in a set, or that is a place
use Rattle.std.specs.Prelude.{ℕ, suc, ◌+◌, ◌-◌, ◌%◌, ◌≤◌, ◌<◌, ◌≡◌, Bool, true, false, ◌≢◌, List, length, get_or, Option}
use Rattle.std.specs.declared.option.Option.TheVariants.{None, Some}
use Rattle.finite.specs.Bounded.{count}
use Rattle.bits.specs.Member.{has}
use Rattle.checker_places.specs.Search.{Listed}
use Rattle.checker_search.specs.Turns.{marked, enters}
use Rattle.checker_places.specs.Place.{most_places}

abbrev pub at : List ℕ → ℕ → ℕ
at l k = get_or l k 0

-- a search's queue, its things having the test p first and each later one entered from its finder
abbrev pub InQueue : (ℕ → Bool) → (ℕ → ℕ → Bool) → ℕ → List ℕ → List ℕ → List ℕ → ℕ → Type 0
InQueue p r N mark queue from n = Listed (λ a. p a ≡ true) (λ a b. r a b ≡ true) N n (at queue) (at from) (marked mark)

pub record Sized (mark queue from : List ℕ) : Type 0 where
  pub marks : length mark ≡ most_places
  pub places : length queue ≡ most_places
  pub finders : length from ≡ most_places

pub record Queued (N : ℕ) (mark queue from : List ℕ) (n : ℕ) : Type 0 where
  pub sized : Sized mark queue from
  pub places : N ≤ most_places
  pub few : n ≤ count N (marked mark)
  pub below : (k : ℕ) → k < n → at queue k < N

pub record FinderFits (N f : ℕ) (mark queue from : List ℕ) (n : ℕ) : Type 0 where
  pub queued : Queued N mark queue from n
  pub finder : f ≤ n

pub record Grown (N : ℕ) (mark queue from : List ℕ) (n : ℕ) (mark' queue' from' : List ℕ) (n' : ℕ) : Type 0 where
  pub queued : Queued N mark' queue' from' n'
  pub more : n ≤ n'
  pub marks : (a : ℕ) → marked mark a ≡ true → marked mark' a ≡ true
  pub front : (k : ℕ) → k < n → at queue' k ≡ at queue k

pub record Visited (N : ℕ) (X : List ℕ) (f d : ℕ) (mark queue from : List ℕ) (n : ℕ) (mark' queue' from' : List ℕ) (n' : ℕ) : Type 0 where
  pub grown : Grown N mark queue from n mark' queue' from' n'
  pub there : d < N → marked X d ≡ true → marked mark' d ≡ true
  pub listed : (p : ℕ → Bool) (r : ℕ → ℕ → Bool) → (d < N → marked X d ≡ true → f ≡ 0 → p d ≡ true)
      → ((m : ℕ) → d < N → marked X d ≡ true → f ≡ suc m → r (at queue m) d ≡ true)
      → InQueue p r N mark queue from n → InQueue p r N mark' queue' from' n'

pub record Spread (I N : ℕ) (rows to X : List ℕ) (f c : ℕ) (mark queue from : List ℕ) (n : ℕ) (mark' queue' from' : List ℕ) (n' : ℕ) : Type 0 where
  pub grown : Grown N mark queue from n mark' queue' from' n'
  pub there : (d : ℕ) → d < N → enters I rows to X c d ≡ true → marked mark' d ≡ true
  pub listed : (p : ℕ → Bool) → ((d : ℕ) → f ≡ 0 → enters I rows to X c d ≡ true → p d ≡ true) → ((m : ℕ) → f ≡ suc m → at queue m ≡ c)
      → InQueue p (enters I rows to X) N mark queue from n → InQueue p (enters I rows to X) N mark' queue' from' n'

pub record Exhausted (I N : ℕ) (rows to X mark queue from : List ℕ) (n : ℕ) (mark' queue' from' : List ℕ) (n' : ℕ) : Type 0 where
  pub grown : Grown N mark queue from n mark' queue' from' n'
  pub on : (k d : ℕ) → k < n' → d < N → enters I rows to X (at queue' k) d ≡ true → marked mark' d ≡ true
  pub listed : (p : ℕ → Bool) → InQueue p (enters I rows to X) N mark queue from n → InQueue p (enters I rows to X) N mark' queue' from' n'

pub record Held (mark queue : List ℕ) (n : ℕ) : Type 0 where
  pub short : n ≤ most_places
  pub long : length mark ≡ most_places
  pub inside : (k : ℕ) → k < n → at queue k < most_places
  pub found : (a : ℕ) → marked mark a ≡ true → (k : ℕ) × (k < n) × (at queue k ≡ a)

pub record Unmarked (mark : List ℕ) : Type 0 where
  pub long : length mark ≡ most_places
  pub none : (a : ℕ) → marked mark a ≡ false

pub record Reach (I N : ℕ) (rows to X : List ℕ) (u : ℕ) (mark queue from : List ℕ) (n : ℕ) : Type 0 where
  pub sized : Sized mark queue from
  pub listed : InQueue (enters I rows to X u) (enters I rows to X) N mark queue from n
  pub enter : (d : ℕ) → d < N → enters I rows to X u d ≡ true → marked mark d ≡ true
  pub on : (c d : ℕ) → marked mark c ≡ true → d < N → enters I rows to X c d ≡ true → marked mark d ≡ true

pub record Finders (k : ℕ) (from : List ℕ) : Type 0 where
  pub earlier : (i : ℕ) → i ≤ k → at from i ≤ i

-- entry i is a place in the queue, and entry i + 1 one that it found
pub record Link (queue from : List ℕ) (k a b : ℕ) : Type 0 where
  pub finder : ℕ
  pub found : ℕ
  pub below : found ≤ k
  pub by : at from found ≡ suc finder
  pub here : a ≡ at queue finder
  pub next : b ≡ at queue found

pub record Root (queue from : List ℕ) (k a : ℕ) : Type 0 where
  pub found : ℕ
  pub below : found ≤ k
  pub by : at from found ≡ 0
  pub here : a ≡ at queue found

pub record Chained (queue from : List ℕ) (k : ℕ) (out : List ℕ) (i : ℕ) : Type 0 where
  pub long : length out ≡ most_places
  pub some : i < most_places
  pub short : most_places ≤ i + suc k
  pub first : Root queue from k (at out i)
  pub last : at out 4095 ≡ at queue k
  pub link : (m : ℕ) → i ≤ m → suc m < most_places → Link queue from k (at out m) (at out (suc m))

pub record Copied (src : List ℕ) (a e : ℕ) (dst : List ℕ) (p : ℕ) (out : List ℕ) : Type 0 where
  pub long : length out ≡ length dst
  pub before : (k : ℕ) → k < p → at out k ≡ at dst k
  pub here : (k : ℕ) → k < e - a → at out (p + k) ≡ at src (a + k)
  pub after : (k : ℕ) → p + (e - a) ≤ k → at out k ≡ at dst k

abbrev pub FirstIn : ℕ → List ℕ → ℕ → ℕ → Option ℕ → Type 0
FirstIn I queue n x None = (k : ℕ) → k < n → has x (at queue k % I) ≡ false
FirstIn I queue n x (Some r) = (r < n) × (has x (at queue r % I) ≡ true)

abbrev pub FirstAt : List ℕ → ℕ → ℕ → Option ℕ → Type 0
FirstAt queue n v None = (k : ℕ) → k < n → at queue k ≢ v
FirstAt queue n v (Some r) = (r < n) × (at queue r ≡ v)
