-- The table of records: what stands where.
use Rattle.std.proofs.Common.{◌≡◌, ℕ, zero, suc, ◌+◌, ◌-◌, ◌%◌, ◌<◌, ◌≤◌, false, inl, inr, List, [], ◌∷◌, length, get_or, replicate, sym, refl, subst, arith}
use Rattle.std.proofs.Math.ListN.{set}
use Rattle.std.proofs.lemmas.List.{get_or-replicate, length-replicate, get_or-set_other, get_or-set_same}
use Rattle.std.proofs.lemmas.Bool.{cases_lt}
use Rattle.gateway.specs.declared.session.Session.{Session}
use Rattle.gateway.specs.Sessions.{closed, session_of, AllClosed, waits, steps_on, NoneWaits}

-- past the end no coach is open
pub beyond : (xs : List Session) (k : ℕ) → length xs ≤ k → get_or xs k closed ≡ closed
beyond [] k h = refl
beyond (x ∷ xs) zero h = absurd (omega arith)
beyond (x ∷ xs) (suc k) h = beyond xs k (omega arith)

-- a table of one record for all
pub all_one : (x : Session) → x ≡ closed → AllClosed (replicate 64 x)
all_one x is =
    subst (λ (y : Session). AllClosed (replicate 64 y)) (sym is) (record {
      count = length-replicate 64 closed;
      each = λ k. elim (cases_lt k 64) [ inl h ↦ get_or-replicate 64 k closed closed h | inr h ↦ beyond (replicate 64 closed) k (rw (length-replicate 64 closed) h) ];
    })

-- one record of a table written: that coach's record is the new one, and all others stay
pub set_same : (xs : List Session) (coach : ℕ) (x : Session) → length xs ≡ 64 → coach < 64 → session_of (set xs coach x) coach ≡ x
set_same xs coach x many below = get_or-set_same xs coach x closed (omega arith)

pub set_other : (xs : List Session) (coach other : ℕ) (x : Session) → (other ≡ coach → ⊥) → session_of (set xs coach x) other ≡ session_of xs other
set_other xs coach other x ne = get_or-set_other xs coach other x closed ne

-- how far a coach is ahead of a place
pub steps_to : (from coach : ℕ) → coach < 64 → (k : ℕ) × (k < 64) × (coach ≡ steps_on from k)
steps_to from coach below = ((coach + 64 - from % 64) % 64, omega arith, omega arith)

-- where the coaches 64 steps on from a place have no bytes waiting, no coach has
pub none_all_round : (xs : List Session) (from : ℕ) → ((k : ℕ) → k < 64 → waits (session_of xs (steps_on from k)) ≡ false) → NoneWaits xs
none_all_round xs from none coach below =
    let far = steps_to from coach below in
    subst (λ n. waits (session_of xs n) ≡ false) (sym far.2) (none far.0 far.1)
