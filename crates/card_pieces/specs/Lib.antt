pub mod CardPieces
