-- The index over the sets of the states: what its buckets lead to. Assumes nothing.
use Rattle.std.specs.Prelude.{◌≡◌, ℕ, ◌+◌, ◌<◌, ◌≤◌, length, slice_index}
use Rattle.positions.specs.Tables.{set_at}
use Rattle.subsets.specs.Buckets.{IsFourWords, bucket_of}
use Rattle.subsets.specs.declared.states.States.{States}

-- the bucket of the state at a place
abbrev pub bucket_at : States → ℕ → ℕ
bucket_at st k = bucket_of (set_at st.sets k)

-- the buckets lead to each state: each names its newest state, one higher, and 0 if it has none, and each
-- state names the next older one of its bucket in the same way; no two states have one set
pub record IsIndexed (st : States) : Type 0 where
  pub few : st.count ≤ 512
  pub sets_room : length st.sets ≡ 512
  pub newest_room : length st.newest ≡ 512
  pub older_room : length st.older ≡ 512
  pub words : (k : ℕ) → k < st.count → IsFourWords (set_at st.sets k)
  pub newest_low : (b : ℕ) → b < 512 → slice_index st.newest b ≤ st.count
  pub newest_in : (b k : ℕ) → b < 512 → slice_index st.newest b ≡ k + 1 → bucket_at st k ≡ b
  pub newest_all : (k : ℕ) → k < st.count → k < slice_index st.newest (bucket_at st k)
  pub older_low : (i : ℕ) → i < st.count → slice_index st.older i ≤ i
  pub older_in : (i k : ℕ) → i < st.count → slice_index st.older i ≡ k + 1
      → bucket_at st k ≡ bucket_at st i
  pub older_all : (i k : ℕ) → i < st.count → k < i → bucket_at st k ≡ bucket_at st i
      → k < slice_index st.older i
  pub distinct : (i k : ℕ) → i < st.count → k < i → set_at st.sets k ≡ set_at st.sets i → ⊥
