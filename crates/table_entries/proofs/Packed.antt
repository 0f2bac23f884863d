-- Laws of entries. No crate above unfolds `entry` or `answer`.
--
--   none_entry_lem             : the entry of none
--   entry_packed           : a state and a counter make an entry
--   entry_small            : such an entry is small
--   entry_steps            : the entries of one state for one counter after another
--   answer_none, answer_read : what an entry stands for, told by the test for none and by what is read from it
--   gives_state            : answers that are the same give the same state
use Prim.Native.Nat.{ℕ, ◌+◌, ◌*◌, ◌<◌}
use mathlib.Core.Path.{◌≡◌, refl, sym, ◌∙◌, ap, ap₂}
use mathlib.Core.Logic.{◌≢◌}
use native.Mathlib.Omega.{arith}
use borrow.Author.Tests.{eq-eqb, ne_eqb}
use Rattle.arena.specs.Table.{Answer, none, gives}
use Rattle.theory.specs.Entries.{stride, none_entry, entry_state, entry_counter, entry, answer}
use Rattle.table_counters.specs.Counters.{most_counters}

pub none_entry_lem : none_entry ≡ entry none
unfolding entry
none_entry_lem = refl

pub entry_packed : (counter state : ℕ) → state + stride * counter ≡ entry (gives counter state)
unfolding entry
entry_packed counter state = refl

pub entry_small : (counter state : ℕ) → state < stride → counter < most_counters → entry (gives counter state) < stride * most_counters
unfolding entry
entry_small counter state s c = omega arith

pub entry_steps : (counter state : ℕ) → entry (gives 0 state) + stride * counter ≡ entry (gives counter state)
unfolding entry
entry_steps counter state = omega arith

pub answer_none : (e : ℕ) → e ≡ none_entry → none ≡ answer e
unfolding answer
answer_none e h = sym (rw (eq-eqb e none_entry h, answer))

pub answer_read : (e : ℕ) {c s : ℕ} → e ≢ none_entry → c ≡ entry_counter e → s ≡ entry_state e → gives c s ≡ answer e
unfolding answer
answer_read e h p q = ap₂ gives p q ∙ sym (rw (ne_eqb e none_entry h, answer))

unfoldable state_in : Answer → ℕ
state_in none = 0
state_in (gives counter state) = state

pub gives_state : (c d s t : ℕ) → gives c s ≡ gives d t → s ≡ t
unfolding state_in
gives_state c d s t e = ap state_in e
