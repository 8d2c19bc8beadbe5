-- The laws of a chain of feed calls, whatever engine acts on the lines: whatever the pieces and the rooms, it runs the
-- text that it took, nobody is stuck, and a report begins as that of the text so far. Assumes nothing.
use Prim.Native.Nat.{ℕ, ◌+◌, ◌<◌, ◌≤◌}
use native.Mathlib.Omega.{arith}
use mathlib.Core.Path.{◌≡◌, refl, sym, ap, subst, ◌∙◌}
use mathlib.Core.List.Memᴰ
use mathlib.Core.List.{List, [], ◌∷◌, ◌++◌, append_assoc, append-nil}
use lib.ListN.{length, take, drop, length-take, take-append-drop, length-drop}
use lib.Seq.{take-take, take-append_seam}
use Rattle.rules.specs.Limits.{answer_bytes}
use Rattle.rules.specs.Put.{put}
use Rattle.rules.specs.Feed.{Engine, State, Ran, after, run, run_nil, taken}
use Rattle.rules.specs.Calls.{FedWith, KeepsLengths, fits_session}
use Rattle.rules.proofs.Tests.{by_order, by_test}
use Rattle.rules.proofs.Feed.{run_append, taken_most, taken_some}
use Rattle.rules.proofs.Calls.{feed_done, feed_24, feed_lent}
use Rattle.promises.specs.Cutting.{Call, fed_on, ran_on, chain, Cutting, Early, StopsEarly, GoesOn, SoFar}
use Rattle.promises.specs.Cutting.{Finishes}

-- what is put at the front of a room stands there
put_front : (room part : List ℕ) → take (length part) (put room 0 part) ≡ part
unfolding put
put_front room part = take-append_seam part (drop (0 + length part) room)

-- the bytes that a call takes of its piece are the first of the text
taken_first : (text room : List ℕ) (n : ℕ)
    → take (taken (take n text) (length room)) (take n text) ≡ take (taken (take n text) (length room)) text
taken_first text room n =
    take-take (taken (take n text) (length room)) n text
    (omega (arith, taken_most (take n text) (length room), length-take n text))

module _ {P : Type 0} (engine : Engine P) where
  -- ---- one call

  -- a call runs the bytes that it takes; refused, it takes none
  call_ran : (st : State P) (text : List ℕ) (call : Call)
      → ran_on (fed_on engine st text call) ≡ run engine st (take (fed_on engine st text call).given.taken text)
  call_ran st text call =
      let piece : List ℕ = take call.offered text in
      let Runs : FedWith P → Type 0 = λ fed. ran_on fed ≡ run engine st (take fed.given.taken text) in
      by_test (fits_session engine st.session st.pool)
      (λ fits.
      let is : Ran P = run engine st (take (taken piece (length call.room)) piece) in
      subst Runs (sym (feed_done engine st.session st.pool piece call.room fits))
      (ap (λ report. record { state = is.state; report = report }) (put_front call.room is.report)
      ∙ ap (run engine st) (taken_first text call.room call.offered)))
      (λ not.
      subst Runs (sym (feed_24 engine st.session st.pool piece call.room not)) (sym (run_nil engine st)))

  -- ---- a chain

  -- whatever comes after a text, the report begins as it did
  pub so_far : SoFar engine
  so_far st text more =
      ((run engine (run engine st text).state more).report, ap (λ r. r.report) (run_append engine st text more))

  -- so where a chain has run the first part of the text, its report is the first part of the report
  early : (st : State P) (text : List ℕ) (calls : List Call) (taken : List ℕ)
      → text ≡ taken ++ (chain engine st text calls).left
      → (chain engine st text calls).ran ≡ run engine st taken → Early engine st text calls
  early st text calls taken text_is ran_is =
      let left : List ℕ = (chain engine st text calls).left in
      let more : (rest : List ℕ) × ((run engine st (taken ++ left)).report ≡ (run engine st taken).report ++ rest) =
      so_far st taken left in
      record {
        taken = taken;
        text_is = text_is;
        ran_is = ran_is;
        rest = more.0;
        report_is = ap (λ t. (run engine st t).report) text_is ∙ more.1 ∙ ap (λ r. r.report ++ more.0) (sym ran_is);
      }

  -- a chain that stops early has: what its first call took, and then what the others did
  pub stops_early : StopsEarly engine
  unfolding chain
  stops_early st text [] = early st text [] [] refl (sym (run_nil engine st))
  stops_early st text (call ∷ calls) =
      let n : ℕ = (fed_on engine st text call).given.taken in
      let first : Ran P = ran_on (fed_on engine st text call) in
      let others : Early engine first.state (drop n text) calls = stops_early first.state (drop n text) calls in
      early st text (call ∷ calls) (take n text ++ others.taken)
      (sym (take-append-drop n text) ∙ ap (λ l. take n text ++ l) others.text_is
      ∙ sym (append_assoc (take n text) others.taken _))
      (ap (after first.report) others.ran_is
      ∙ ap (λ r. after r.report (run engine r.state others.taken)) (call_ran st text call)
      ∙ sym (run_append engine st (take n text) others.taken))

  -- and one that has taken the whole text comes to what the rules say of the whole text
  pub cutting : Cutting engine
  cutting st text calls all =
      let is : Early engine st text calls = stops_early st text calls in
      is.ran_is ∙ ap (run engine st) (sym (is.text_is ∙ ap (λ l. is.taken ++ l) all ∙ append-nil is.taken))

  -- ---- an engine that keeps the lengths of what it is lent

  -- with room for an answer a call takes a byte, and what it hands back fits again
  pub goes_on : KeepsLengths engine → GoesOn engine
  goes_on keeps = record {
    takes = λ session pool piece room fits some· enough.
        subst (λ f. 0 < f.given.taken) (sym (feed_done engine session pool piece room fits))
        (taken_some piece (length room) some· enough);
    fits = λ session pool piece room fits. feed_lent engine session pool piece room keeps fits;
  }

  -- a chain of such calls, as many as the text has bytes, takes it whole
  pub finishes : KeepsLengths engine → Finishes engine
  unfolding chain
  finishes keeps st text [] fits good enough = none_left text enough
    where
      none_left : (text : List ℕ) → length text ≤ 0 → text ≡ []
      none_left [] none· = refl
      none_left (b ∷ text) none· = absurd (omega arith)
  finishes keeps st text (call ∷ calls) fits good enough =
      let piece : List ℕ = take call.offered text in
      let fed : FedWith P = fed_on engine st text call in
      let own : (0 < call.offered) × (answer_bytes ≤ length call.room) = good call (Memᴰ.head refl) in
      finishes keeps (ran_on fed).state (drop fed.given.taken text) calls
      ((goes_on keeps).fits st.session st.pool piece call.room fits)
      (λ other m. good other (Memᴰ.tail m))
      (by_order 0 (length text)
      (λ some·.
      let first : 0 < fed.given.taken =
      (goes_on keeps).takes st.session st.pool piece call.room fits
      (omega (arith, length-take call.offered text, own.0)) own.1 in
      omega (arith, length-drop fed.given.taken text))
      (λ none·. omega (arith, length-drop fed.given.taken text)))
