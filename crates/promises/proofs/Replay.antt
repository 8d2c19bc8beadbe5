-- The laws of a replay: what each byte keeps of a state and the history so far holds after a text, and at each of its
-- lines; and every line is answered. Assumes nothing.
use Prim.Native.Nat.{ℕ, suc, ◌^◌, ◌<◌}
use native.Mathlib.Omega.{arith}
use mathlib.Core.Path.{◌≡◌, refl, sym, ap, ap₂, subst, ◌∙◌}
use mathlib.Core.Logic.{◌≢◌}
use mathlib.Core.List.{List, [], ◌∷◌, ◌++◌, cons-ne-nil, head-eq_of_cons-eq, tail-eq_of_cons-eq}
use lib.ListN.{length}
use Rattle.std.specs.Prelude.{Option, Some}
use Rattle.std.proofs.lemmas.Option.{same_Some}
use Rattle.rules.specs.Answers.{Answer}
use Rattle.rules.specs.Limits.{line_feed}
use Rattle.rules.specs.Answers.{in_numbers, status}
use Rattle.rules.specs.Frames.{Asked, frame, frame_of_line}
use Rattle.rules.specs.Release.{Pool}
use Rattle.rules.specs.Feed.{State, Ran, act_line, emptied, finish, hold, after, run, run_nil, run_cons}
use Rattle.rules.specs.Watcher.{act, watcher, outcome}
use Rattle.rules.specs.Calls.{LentState}
use Rattle.rules.proofs.Feed.{step_line_feed, step_byte, by_first}
use Rattle.rules.proofs.Calls.{lent_true, step_lent}
use Rattle.promises.specs.History.{lines_on, lines, Exchange, paired, exchanges, asks, status_of, value_of}
use Rattle.promises.specs.History.{kind_of}
use Rattle.promises.specs.History.{History, happen, heard, heard_all}
use Rattle.promises.specs.Replay.{Idle, Replay, ran, log, Line, history, happened, EveryLine}
use Rattle.promises.proofs.History.{told, events_told}
use Rattle.promises.proofs.Lines.{lines_feed, lines_byte, answer_digits, lines_answer, status_answered}
use Rattle.promises.proofs.Lines.{value_answered, Spells, spells_none, spells_more, spells_asks, kind_answered}
use Rattle.promises.proofs.Digits.{value_fits, status_fits}

-- ---- an idle state

-- its session fits the buffers
pub idle_lent : {st : State Pool} → Idle st → LentState st
idle_lent {st} idle = lent_true st.session st.pool.shadow st.pool.table idle.fits

-- and its line is empty
idle_spells : {st : State Pool} → Idle st → Spells st.session []
unfolding emptied
idle_spells {st} idle =
    spells_none st.session (ap (λ s. s.unfinished) idle.none_unfinished)
    (ap (λ s. s.line) idle.none_unfinished)

-- ---- the moment of a line

-- the frame of the line that a line feed would finish
abbrev pub asked : State Pool → Asked
asked st = frame_of_line st.session.unfinished st.session.line

-- the moment at which a line is answered: the state that it meets, and what its exchange says
pub record Moment (P : State Pool → History → Type 0) (h : History) (x : Exchange) : Type 0 where
  pub st : State Pool
  pub holds : P st h
  pub asks_is : asks x ≡ asked st
  pub status_is : status_of x ≡ Some (status (act_line watcher st).answer)
  pub kind_is : (in_numbers (act_line watcher st).answer).kind < 16 ^ 2 → kind_of x
      ≡ Some (in_numbers (act_line watcher st).answer).kind
  pub value_is : value_of x ≡ Some (in_numbers (act_line watcher st).answer).value

-- what the line's frame does is what the moment's line does
pub acted_on : {P : State Pool → History → Type 0} {h : History} {x : Exchange} (m : Moment P h x) (frame : Asked)
    → asks x ≡ frame
    → act_line watcher m.st ≡ outcome (act m.st.session m.st.pool.shadow m.st.pool.table frame)
unfolding act_line
acted_on m frame e =
    ap (λ k. outcome (act m.st.session m.st.pool.shadow m.st.pool.table k)) (sym m.asks_is ∙ e)

-- what is read off an answer is one number
pub one_status : {o : Option ℕ} {s t : ℕ} → o ≡ Some s → o ≡ Some t → s ≡ t
one_status {s = s} {t = t} e f = same_Some s t (sym e ∙ f)

-- what each byte keeps of a state and the history so far: after a log it holds of the last state, and at each line of
-- the log
record Goes (P : State Pool → History → Type 0) (h : History) (log : List Exchange) (last : State Pool) : Type 0 where
  after : P last (heard_all h log)
  at : (before : List Exchange) (x : Exchange) (rest : List Exchange) → log ≡ before ++ (x ∷ rest)
      → Moment P (heard_all h before) x

-- no line
goes_nowhere : (P : State Pool → History → Type 0) (h : History) (st : State Pool) → P st h → Goes P h [] st
unfolding heard_all
goes_nowhere P h st holds = record { after = holds; at = at }
  where
    at : (before : List Exchange) (x : Exchange) (rest : List Exchange) → [] ≡ before ++ (x ∷ rest)
        → Moment P (heard_all h before) x
    at [] x rest e = absurd (cons-ne-nil x rest (sym e))
    at (y ∷ before) x rest e = absurd (cons-ne-nil y (before ++ (x ∷ rest)) (sym e))

-- one line more
goes_on : (P : State Pool → History → Type 0) (h : History) (y : Exchange) (log : List Exchange) (last : State Pool)
    → Moment P h y → Goes P (heard h y) log last → Goes P h (y ∷ log) last
unfolding heard_all
goes_on P h y log last first goes = record { after = goes.after; at = at }
  where
    at : (before : List Exchange) (x : Exchange) (rest : List Exchange) → y ∷ log ≡ before ++ (x ∷ rest)
        → Moment P (heard_all h before) x
    at [] x rest e = subst (Moment P h) (head-eq_of_cons-eq e) first
    at (z ∷ before) x rest e =
        subst (λ w. Moment P (heard_all (heard h w) before) x) (head-eq_of_cons-eq e)
        (goes.at before x rest (tail-eq_of_cons-eq e))

-- ---- a text

-- by its first byte: a line feed finishes the line, any other is held
pub run_feed : (st : State Pool) (text : List ℕ) → run watcher st (line_feed ∷ text)
    ≡ after (finish watcher st).report (run watcher (finish watcher st).state text)
run_feed st text =
    run_cons watcher st line_feed text ∙ ap (λ ran. after ran.report (run watcher ran.state text))
    (step_line_feed watcher st)

pub run_byte : (st : State Pool) (b : ℕ) (text : List ℕ) → b ≢ line_feed → run watcher st (b ∷ text)
    ≡ after (hold st b).report (run watcher (hold st b).state text)
run_byte st b text other =
    run_cons watcher st b text ∙ ap (λ ran. after ran.report (run watcher ran.state text))
    (step_byte watcher st b other)

module _ (P : State Pool → History → Type 0)
    (on_byte : (st : State Pool) (h : History) (b : ℕ) → P st h → P (hold st b).state h)
    (on_line : (st : State Pool) (h : History) → LentState st → P st h
    → P (finish watcher st).state (happen h (told (asked st) (act_line watcher st).answer))) where
  -- a text goes on from a state and the bytes that its unfinished line stands for: over the text's log, to the last
  -- state
  abbrev Along : History → List ℕ → List ℕ → Ran Pool → Type 0
  Along h line text ran = Goes P h (paired (lines_on line text) (lines ran.report)) ran.state

  abbrev Follows : List ℕ → Type 0
  Follows text =
      (st : State Pool) (h : History) (line : List ℕ) → LentState st → Spells st.session line → P st h
      → Along h line text (run watcher st text)

  -- a line feed, and a text
  follows_feed : (text : List ℕ) → Follows text → Follows (line_feed ∷ text)
  unfolding paired finish emptied asks heard
  follows_feed text follows st h line lent spells holds =
      let answer : Answer = (act_line watcher st).answer in
      let x : Exchange = record { line = line; answer = answer_digits answer } in
      let rest : Ran Pool = run watcher (finish watcher st).state text in
      let now : Moment P h x = record {
        st = st;
        holds = holds;
        asks_is = spells_asks spells;
        status_is = status_answered line answer (status_fits answer);
        kind_is = kind_answered line answer;
        value_is = value_answered line answer (value_fits st lent);
      } in
      let hears : happen h (told (asked st) answer) ≡ heard h x =
      ap (happen h)
      (ap (λ frame. told frame answer) (sym now.asks_is)
      ∙ sym (events_told x answer now.status_is now.value_is)) in
      let later : Along (heard h x) [] text rest =
      follows (finish watcher st).state (heard h x) []
      (subst (λ ran. LentState ran.state) (step_line_feed watcher st) (step_lent st line_feed lent))
      (spells_none _ refl refl)
      (subst (P (finish watcher st).state) hears (on_line st h lent holds)) in
      subst (Along h line (line_feed ∷ text)) (sym (run_feed st text))
      (subst (λ log. Goes P h log rest.state)
      (sym (ap₂ paired (lines_feed line text) (lines_answer answer rest.report)))
      (goes_on P h x (paired (lines_on [] text) (lines rest.report)) rest.state now later))

  -- any other byte, and a text
  follows_byte : (b : ℕ) (text : List ℕ) → b ≢ line_feed → Follows text → Follows (b ∷ text)
  unfolding hold
  follows_byte b text other follows st h line lent spells holds =
      let rest : Ran Pool = run watcher (hold st b).state text in
      subst (Along h line (b ∷ text)) (sym (run_byte st b text other))
      (subst (λ ls. Goes P h (paired ls (lines rest.report)) rest.state) (sym (lines_byte line b text other))
      (follows (hold st b).state h (line ++ (b ∷ []))
      (subst (λ ran. LentState ran.state) (step_byte watcher st b other) (step_lent st b lent))
      (spells_more spells b)
      (on_byte st h b holds)))

  -- any text
  text_follows : (text : List ℕ) → Follows text
  unfolding paired lines_on
  text_follows [] =
      λ st h line lent spells holds. subst (Along h line []) (sym (run_nil watcher st)) (goes_nowhere P h st holds)
  text_follows (b ∷ text) =
      by_first b (λ c. Follows (c ∷ text)) (follows_feed text (text_follows text))
      (λ other. follows_byte b text other (text_follows text))

  module _ (r : Replay) (at_beginning : P r.begun r.earlier) where
    -- a replay's text, from its beginning
    replay_goes : Goes P r.earlier (log r) (ran r).state
    unfolding ran log exchanges lines
    replay_goes =
        text_follows r.text r.begun r.earlier [] (idle_lent r.begins.idle)
        (idle_spells r.begins.idle) at_beginning

    -- it holds once the text has run
    pub replay_has : P (ran r).state (happened r)
    unfolding history
    replay_has = replay_goes.after

    -- and when each line is answered
    pub moment : (before : List Exchange) (x : Exchange) → Line r before x → Moment P (history r before) x
    unfolding history
    moment before x line = replay_goes.at before x line.after line.is

-- ---- every line is answered

-- a text has as many lines as its report
as_many : (text line : List ℕ) (st : State Pool) → length (lines (run watcher st text).report)
    ≡ length (lines_on line text)
unfolding lines lines_on finish hold
as_many [] = λ line st. ap (λ r. length (lines r.report)) (run_nil watcher st)
as_many (b ∷ text) =
    by_first b (λ c. (line : List ℕ) (st : State Pool) → length (lines (run watcher st (c ∷ text)).report)
    ≡ length (lines_on line (c ∷ text)))
    (λ line st.
    ap (λ r. length (lines r.report)) (run_feed st text)
    ∙ ap length (lines_answer (act_line watcher st).answer (run watcher (finish watcher st).state text).report)
    ∙ ap suc (as_many text [] (finish watcher st).state)
    ∙ ap length (sym (lines_feed line text)))
    (λ other line st.
    ap (λ r. length (lines r.report)) (run_byte st b text other)
    ∙ as_many text (line ++ (b ∷ [])) (hold st b).state
    ∙ ap length (sym (lines_byte line b text other)))

-- of as many lines as answers, none is left out
length_paired : (lines answers : List (List ℕ)) → length answers ≡ length lines → length (paired lines answers)
    ≡ length lines
unfolding paired
length_paired [] answers same = refl
length_paired (line ∷ lines) [] same = absurd (omega arith)
length_paired (line ∷ lines) (answer ∷ answers) same = ap suc (length_paired lines answers (omega arith))

pub every_line : EveryLine
unfolding log ran exchanges lines
every_line r =
    let same : length (lines (run watcher r.begun r.text).report) ≡ length (lines r.text) =
    as_many r.text [] r.begun in
    let all : length (paired (lines r.text) (lines (run watcher r.begun r.text).report))
    ≡ length (lines r.text) =
    length_paired (lines r.text) (lines (run watcher r.begun r.text).report) same in
    record { lines_answered = all; answers_heard = all ∙ sym same }
