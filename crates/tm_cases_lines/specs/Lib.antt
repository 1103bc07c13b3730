pub mod Unhindered
