mod Asked
mod FoundAt
mod Known
mod NearWord
