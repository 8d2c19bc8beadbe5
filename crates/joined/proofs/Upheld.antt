-- From a program's calls to demand 3: its feeds are a chain of the rules, the chain runs the bytes that it took, and
-- those bytes from the program's opening are a replay, of which the demands are proved. Assumes nothing.
use Prim.Native.Nat.{ℕ}
use mathlib.Core.Path.{◌≡◌, sym, ap, ap₂, subst, ◌∙◌}
use mathlib.Core.List.{List, ◌∷◌, ◌++◌, append-nil}
use lib.ListN.{length}
use Rattle.rules.specs.Release.{Pool}
use Rattle.rules.specs.Feed.{Ran}
use Rattle.rules.specs.Watcher.{watcher}
use Rattle.rules.specs.Calls.{OpenedWith, open_with}
use Rattle.promises.specs.History.{Exchange, exchanges, nothing_yet}
use Rattle.promises.specs.Cutting.{Chained, chain, Early}
use Rattle.promises.specs.Agreement.{SeparatedIn, QuarantinedIn}
use Rattle.promises.specs.Replay.{Begins, Replay, Opening, opened, ran, Line, history}
use Rattle.promises.specs.Replay
use Rattle.promises.proofs.Cutting.{stops_early}
use Rattle.promises.proofs.Beginning.{openings}
use Rattle.promises.proofs.Replay.{every_line}
use Rattle.promises.proofs.Accesses.{reported, first_bad_byte}
use Rattle.promises.proofs.Quarantine.{separation, quarantine, not_again}
use Rattle.joined.specs.Program.{Program}
use Rattle.joined.specs.Upheld.{begun, log, in_quarantine, Upholds}
use Rattle.joined.proofs.Program.{all_chain}

-- the program's opening, and that what it left is that opening's state
opening_of : Program → Opening
opening_of p = record {
  shadow = p.shadow;
  table = p.table;
  redzone = p.redzone;
  quarantine = p.quarantine;
  accepted = sym (ap (λ o. o.status) p.opening.given) ∙ p.accepted;
}

begun_is : (p : Program) → begun p ≡ opened (opening_of p)
unfolding opened opening_of
begun_is p =
    let with· : OpenedWith = open_with p.shadow p.table p.redzone p.quarantine in
    ap (λ o. record { session = o.session; pool = p.pool }) p.opening.given
    ∙ ap₂ (λ shadow table. record { session = with·.given.session; pool = record { shadow = shadow; table = table } })
    p.opening.shadow p.opening.table

-- so what it left is a beginning, and any text from it is a replay
abbrev replay_of : Program → List ℕ → Replay
replay_of p taken = record {
  begun = begun p;
  earlier = nothing_yet;
  begins = subst (λ st. Begins st nothing_yet) (sym (begun_is p)) (openings (opening_of p));
  text = taken;
}

-- its feeds have run what they took
took : (p : Program) → Early watcher (begun p) p.text p.calls
took p = stops_early watcher (begun p) p.text p.calls

feeds_are : (p : Program) → p.end ≡ chain watcher (begun p) p.text p.calls
feeds_are p = all_chain (begun p) p.text p.calls p.end p.fed

pub upholds : Upholds
unfolding ran Replay.log history
upholds p =
    let early : Early watcher (begun p) p.text p.calls = took p in
    let r : Replay = replay_of p early.taken in
    let same : p.end.ran ≡ ran r = ap (λ (c : Chained Pool). c.ran) (feeds_are p) ∙ early.ran_is in
    let left : p.end.left ≡ (chain watcher (begun p) p.text p.calls).left =
    ap (λ (c : Chained Pool). c.left) (feeds_are p) in
    let logs : log p early.taken ≡ Replay.log r = ap (λ ran. exchanges early.taken ran.report) same in
    let text_is : p.text ≡ early.taken ++ p.end.left =
    early.text_is ∙ ap (λ l. early.taken ++ l) (sym left) in
    let line : (before after : List Exchange) (x : Exchange) → log p early.taken ≡ before ++ (x ∷ after)
    → Line r before x =
    λ before after x is. record { after = after; is = sym logs ∙ is } in
    record {
      taken = early.taken;
      of_the_text = text_is;
      whole = λ none_left. sym (text_is ∙ ap (λ l. early.taken ++ l) none_left ∙ append-nil early.taken);
      ran_is = same;
      every_line = ap length logs ∙ (every_line r).lines_answered;
      reported = λ before after x is. reported r before x (line before after x is);
      first_bad_byte = λ before after x is. first_bad_byte r before x (line before after x is);
      a_redzone_apart =
          subst (λ (k : Ran Pool). SeparatedIn p.opened.session.granules p.opened.session.redzone
          k.state.pool.table) (sym same) (separation r);
      quarantined =
          subst (λ (k : Ran Pool). QuarantinedIn p.opened.session.redzone k.state.pool.table
          (in_quarantine p (exchanges early.taken k.report))) (sym same) (quarantine.quarantined r);
      not_granted_again = λ before after x is. not_again r before x (line before after x is);
    }
