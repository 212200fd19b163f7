pub mod ScsPieces
