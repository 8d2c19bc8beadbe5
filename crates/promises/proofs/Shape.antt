-- Table and shadow after every text, read off what agrees with the history: shape, rows and encoding. Assumes nothing.
use Rattle.promises.specs.Shape.{Shape, RowsAreBlocks, Encoding}
use Rattle.promises.proofs.Drawn.{byte_small, addressable_lies}
use Rattle.promises.proofs.Beginning.{replay_holds, replay_agrees}

pub shape : Shape
shape r = (replay_agrees r).shaped

pub rows_are_blocks : RowsAreBlocks
rows_are_blocks r = (replay_agrees r).rows_are

pub encoding : Encoding
encoding r =
    let standing = (replay_holds r).stands.standing in
    record {
      byte = byte_small standing.laid;
      addressable_is = addressable_lies standing.laid _ standing.lives;
    }
