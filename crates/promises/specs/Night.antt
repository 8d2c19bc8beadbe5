-- The paper's night, seen by these definitions: what its sixteen lines and answers granted and released, the shadow
-- that its rows draw, chains of calls over its text; and both sides of a limit. Each is computed.
use Rattle.std.specs.Prelude.{ℕ, zero, suc, ◌+◌, ◌*◌, ◌≡◌, refl, true, false, List, [], ◌∷◌, drop, replicate}
use Rattle.std.specs.Prelude.{Some, None}
use Prim.Native.String.{String}
use Rattle.rules.specs.Limits.{granule, kind_grant}
use Rattle.rules.specs.Frames.{fields, line_of}
use Rattle.rules.specs.Feed.{run}
use Rattle.rules.specs.Watcher.{watcher}
use Rattle.rules.specs.Night.{bytes, text, opened, trace, answers, shadow_after, table_after, state_after, by_the_rules}
use Rattle.promises.specs.History.{Exchange, block, has_byte, lines_on, lines, paired, exchanges, asks, status_of}
use Rattle.promises.specs.History.{value_of, at, others}
use Rattle.promises.specs.History.{nothing_sought, block_at, sought_by, seeks, Granted, Released, grants_at}
use Rattle.promises.specs.History.{releases_at, did, events}
use Rattle.promises.specs.History.{History, nothing_yet, happens, happen, heard, heard_all, latest}
use Rattle.promises.specs.Replay.{Opening}
use Rattle.promises.specs.Replay
use Rattle.promises.specs.Rows.{past, covers, painted, drawn_byte, drawn}
use Rattle.promises.specs.Cutting.{Call, chain}

-- every definition that a text and its report go through: to unfold this one is to unfold them all
unfoldable pub by_its_events : History → List Exchange → History
unfolding lines_on lines paired exchanges asks status_of value_of block_at sought_by seeks grants_at releases_at did
    events at others happens happen heard heard_all
by_its_events = heard_all

-- a line of the night and its answer, by their text
abbrev exchange : String → String → Exchange
exchange line answer = record { line = bytes line; answer = bytes answer }

-- the first line granted 13 bytes at 10, and the fifth released them; the sixth, a read, and the seventh, a second
-- release, did nothing
pub night_events :
    (events (exchange "010000000d00000000" "000000000010") ≡ Granted (block 0x10 13) ∷ [])
    × (events (exchange "020000001000000000" "000000000000") ≡ Released 0x10 ∷ [])
    × (events (exchange "030000001000000001" "09fd00000010") ≡ [])
    × (events (exchange "020000001000000000" "080000000000") ≡ [])
unfolding by_the_rules by_its_events
night_events = (refl, refl, refl, refl)

-- what they sought; and a release of address 0 seeks nothing
pub night_seeks :
    (seeks (exchange "010000000d00000000" "000000000010") ≡ record { room = Some 13; block = None })
    × (seeks (exchange "020000001000000000" "080000000000") ≡ record { room = None; block = Some 0x10 })
    × (seeks (exchange "030000001000000001" "09fd00000010") ≡ nothing_sought)
    × (seeks (exchange "020000000000000000" "000000000000") ≡ nothing_sought)
unfolding by_the_rules by_its_events
night_seeks = (refl, refl, refl, refl)

-- a line that seeks both grants first: the block that it releases is still held then
pub grant_and_release : did (record { room = Some 8; block = Some 0x10 }) 0x30 ≡ Granted
    (block 0x30 8) ∷ Released 0x10 ∷ []
unfolding by_its_events
grant_and_release = refl

-- the block of 16 bytes at 10 is live; 8 bytes at 48, 1 at 30 and 13 at 10 were released, the latest first
pub night_history :
    heard_all nothing_yet (exchanges (text trace) (text answers))
    ≡ record { live = block 0x10 16 ∷ []; released = block 0x48 8 ∷ block 0x30 1 ∷ block 0x10 13 ∷ [] }
unfolding by_the_rules by_its_events
night_history = refl

-- the same of the report of a run, from an opening of buffers that were scribbled on before
abbrev pub scribbled : Opening
unfolding by_the_rules
scribbled = record { shadow = replicate 16 7; table = replicate 16 9; redzone = 2; quarantine = 16; accepted = refl }

pub night_happened :
    heard_all nothing_yet (exchanges (text trace) (run watcher (Replay.opened scribbled) (text trace)).report)
    ≡ record { live = block 0x10 16 ∷ []; released = block 0x48 8 ∷ block 0x30 1 ∷ block 0x10 13 ∷ [] }
unfolding by_the_rules by_its_events Replay.opened
night_happened = refl

-- with Q = 16 the first of those has left
pub night_quarantine : latest 2 16 (block 0x48 8 ∷ block 0x30 1 ∷ block 0x10 13 ∷ []) ≡ block 0x48 8 ∷ block 0x30 1 ∷ []
unfolding by_the_rules latest
night_quarantine = refl

-- the rows after the night draw the shadow after it
pub night_drawn : drawn table_after 16 0 ≡ shadow_after
unfolding by_the_rules drawn drawn_byte painted covers
night_drawn = refl

-- room for one answer, offered all that is left: sixteen calls take the whole night
abbrev answer_room : Call
answer_room = record { offered = 304; room = replicate 13 0 }

pub night_chained :
    chain watcher (opened 16 2 16 4) (text trace) (replicate 16 answer_room)
    ≡ record { ran = record { state = state_after; report = text answers }; left = [] }
unfolding by_the_rules chain
night_chained = refl

-- two of them have two answers, and have taken the third line up to its line feed
pub night_early :
    (chain watcher (opened 16 2 16 4) (text trace) (replicate 2 answer_room)).ran.report
    ≡ text ("000000000010" ∷ "000000000000" ∷ [])
unfolding by_the_rules chain
night_early = refl

pub night_left : (chain watcher (opened 16 2 16 4) (text trace) (replicate 2 answer_room)).left ≡ drop 56 (text trace)
unfolding by_the_rules chain
night_left = refl

-- two calls by turns, n times
unfoldable pub pairs : ℕ → Call → Call → List Call
pairs zero first second = []
pairs (suc n) first second = first ∷ second ∷ pairs n first second

-- pieces of 7 bytes, each with too little room and then with enough: whatever the cutting, the report is the same
pub night_cut :
    chain watcher (opened 16 2 16 4) (text trace)
    (pairs 60 (record { offered = 7; room = replicate 12 0 }) (record { offered = 7; room = replicate 20 0xff }))
    ≡ record { ran = record { state = state_after; report = text answers }; left = [] }
unfolding by_the_rules chain pairs
night_cut = refl

-- the night's first line, as the line of a direct grant of 13 bytes
pub direct_line : line_of (fields kind_grant 13 0) ≡ text ("010000000d00000000" ∷ [])
unfolding by_the_rules
direct_line = refl

-- ---- both sides of a limit

-- with 12 bytes of room a call takes a line up to its line feed, and the next one nothing
pub twelve_bytes : (chain watcher (opened 16 2 16 4) (text trace)
    (replicate 3 (record { offered = 304; room = replicate 12 0 }))).left ≡ drop 18 (text trace)
unfolding by_the_rules chain
twelve_bytes = refl

-- a block of 13 bytes at 10: its first and last byte, and those beside them
pub block_bytes :
    (has_byte (block 0x10 13) 0x0f ≡ false)
    × (has_byte (block 0x10 13) 0x10 ≡ true)
    × (has_byte (block 0x10 13) 0x1c ≡ true)
    × (has_byte (block 0x10 13) 0x1d ≡ false)
unfolding has_byte
block_bytes = (refl, refl, refl, refl)

-- with R = 2 a block of 1 byte at 10 and one at 28, where `rules` `Night.sizes` has its second, are just R granules
-- apart
pub just_apart : past (block 0x10 1) + granule * 2 ≡ 0x28
unfolding by_the_rules past
just_apart = refl

-- releases of just Q bytes stay; of one byte more, the earlier one leaves
pub run_of_q :
    (latest 2 16 (block 0x48 8 ∷ block 0x30 8 ∷ []) ≡ block 0x48 8 ∷ block 0x30 8 ∷ [])
    × (latest 2 16 (block 0x48 8 ∷ block 0x30 9 ∷ []) ≡ block 0x48 8 ∷ [])
unfolding by_the_rules latest
run_of_q = (refl, refl)

-- a block of just Q bytes stays; one of a byte more leaves at once, and all before it have left
pub block_of_q :
    (latest 2 16 (block 0x30 16 ∷ block 0x10 1 ∷ []) ≡ block 0x30 16 ∷ []) ×
    (latest 2 16 (block 0x30 17 ∷ block 0x10 1 ∷ []) ≡ [])
unfolding by_the_rules latest
block_of_q = (refl, refl)
