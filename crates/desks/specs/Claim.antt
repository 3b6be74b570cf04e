-- "What is claimed of jobs .. holds over any calls from the empty state."
use Rattle.std.specs.Prelude.{ℕ, suc, ◌+◌, ◌*◌, ◌%◌, ◌≤◌, ◌<◌, ◌≡◌, ◌≢◌, List, [], ◌∷◌, ◌++◌, length, drop, replicate}
use Rattle.model.specs.Outcome.{good}
use Rattle.desks.specs.State.{Job, State, Acceptance, empty, submitted}
use Rattle.desks.specs.Run.{Call, hand_out, log, after, accepted, handed, attempts, out, hand_outs}

-- With nothing but hand-outs from state s on, n jobs go before a job of desk d: n hand-outs give n jobs, of its own desk those older than it, and
-- one more gives it.
pub record Exactly (n : ℕ) (s : State) (d : ℕ) (older : List Job) (job : Job) : Type 0 where
  pub jobs : length (out (log s (replicate n hand_out))) ≡ n
  pub own : handed d (log s (replicate n hand_out)) ≡ older
  pub its : handed d (log s (replicate (suc n) hand_out)) ≡ older ++ job ∷ []

-- A job that waits in state s between older and younger ones of desk d still waits after some calls, behind the older ones that do, and no more than `most`
-- jobs are handed out in these.
pub record StillWaits (most : ℕ) (s : State) (calls : List Call) (d : ℕ) (older : List Job) (job : Job) (younger : List Job) : Type 0 where
  pub still : (after s calls).queue d ≡ drop (length (handed d (log s calls))) older ++ job ∷ (younger ++ accepted d (log s calls))
  pub jobs : length (out (log s calls)) ≤ most

-- No more than `most` jobs go before a job with p older ones, whatever is called: as long as at most p jobs of its desk are handed out.
abbrev pub AtMost : ℕ → ℕ → Type 0
AtMost p most = (before calls : List Call) (d : ℕ) (older : List Job) (job : Job) (younger : List Job) → d < 8 → length older ≡ p
    → (after empty before).queue d ≡ older ++ job ∷ younger → length (handed d (log (after empty before) calls)) ≤ p
    → StillWaits most (after empty before) calls d older job younger

pub record Claim : Type 0 where
  -- "a desk may have four waiting"
  pub four : (calls : List Call) (d : ℕ) → length ((after empty calls).queue d) ≤ 4
  -- Of each desk, the jobs accepted are those handed out and then those that wait, in the same order: a desk's jobs are handed out in the order of
  -- submission, none twice, none that was not accepted, and each that is not handed out still waits.
  pub order : (calls : List Call) (d : ℕ) → accepted d (log empty calls) ≡ handed d (log empty calls) ++ (after empty calls).queue d
  -- "the exact number of jobs to be handed out before its own if nobody submits again"
  pub exact : (before : List Call) (desk tag : ℕ) (a : Acceptance) → (submitted desk tag (after empty before)).answer ≡ good a
      → Exactly a.before (submitted desk tag (after empty before)).state desk ((after empty before).queue desk) (record { number = a.number; tag = tag })
  -- "Even if others submit, no more than 8p + 7 go before it": a job just accepted, or any that waits.
  pub most : (p : ℕ) → AtMost p (8 * p + 7)
  -- "Between a job becoming its desk's oldest and its being handed out, at most seven jobs of others are": it has no older ones, and
  -- no job of its desk is handed out.
  pub seven : AtMost 0 7
  -- No loss: with 32 hand-outs after it, whatever else is called between them, every job accepted is handed out.
  pub served : (before calls : List Call) (d : ℕ) → d < 8 → 32 ≤ hand_outs calls
      → (more : List Job) × (handed d (log empty (before ++ calls)) ≡ accepted d (log empty before) ++ more)
  -- "Each desk now has a job counter of its own, from 1 with the same return, moved by its accepted submissions alone": a job's number is told by
  -- how many of its desk were accepted before it.
  pub numbers : (calls : List Call) (d : ℕ) (older : List Job) (job : Job) (younger : List Job)
      → accepted d (log empty calls) ≡ older ++ job ∷ younger → job.number ≡ length older % 4294967295 + 1
  -- "Of the jobs waiting, no two share both desk and number."
  pub distinct : (calls : List Call) (d : ℕ) (older : List Job) (one : Job) (between : List Job) (other : Job) (younger : List Job)
      → (after empty calls).queue d ≡ older ++ one ∷ (between ++ other ∷ younger) → one.number ≢ other.number
  -- A desk's numbers say nothing of the other desks: two runs that agree on its calls, and on whether they were accepted, give it the same.
  pub independent : (one other : List Call) (d : ℕ) → attempts d (log empty one) ≡ attempts d (log empty other)
      → accepted d (log empty one) ≡ accepted d (log empty other)
