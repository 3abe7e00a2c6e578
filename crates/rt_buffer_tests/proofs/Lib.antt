pub mod NoBytes
